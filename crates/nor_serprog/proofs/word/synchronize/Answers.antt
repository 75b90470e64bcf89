-- The word, and what comes late.
use Rattle.nor_serprog.proofs.WordLemmas.{then_late, short_front}
use Rattle.nor_serprog.proofs.word.synchronize.Goals as goal

pub returns-clause-word : goal.returns-clause-word
returns-clause-word g c = then_late _ c.in_ok-tries.tries c.take_late.result _ (short_front _ _) c.in_ok-tries.ensures.word c.take_late.ensures.late
