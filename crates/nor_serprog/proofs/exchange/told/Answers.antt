-- ACK, and then the buffer.
use Rattle.nor_serprog.proofs.ExchangeLemmas.{told_then}
use Rattle.nor_serprog.proofs.exchange.told.Goals as goal

pub returns-clause-answers : goal.returns-clause-answers
returns-clause-answers g c = told_then _ _ _ c.filled.result c.filled.new.got c.in_ok-acknowledged.ensures.answers c.filled.ensures.fills
