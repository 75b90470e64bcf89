-- What an erase leaves, and that it stays within its block.
use Rattle.nor_laws.proofs.EffectLaws.{erase_fills, erase_keeps_others, erase_never_judged}
use Rattle.nor_laws.proofs.erases.Goals as goal

pub returns-clause-fills : goal.returns-clause-fills
returns-clause-fills c = erase_fills

pub returns-clause-keeps : goal.returns-clause-keeps
returns-clause-keeps c = erase_keeps_others

pub returns-clause-judged : goal.returns-clause-judged
returns-clause-judged c = erase_never_judged
