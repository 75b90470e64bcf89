-- Parts of all steps.
use Rattle.nor_serprog.proofs.RowLemmas.{done_in_parts, halt_in_steps}
use Rattle.nor_serprog.proofs.laws.rows.Goals as goal

pub returns-clause-parts : goal.returns-clause-parts
returns-clause-parts c = done_in_parts

pub returns-clause-halts : goal.returns-clause-halts
returns-clause-halts c = halt_in_steps
