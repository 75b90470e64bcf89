-- By the parts, and within a part by whether an operation came before.
use Rattle.nor_select.proofs.Joined as joined
use Rattle.nor_select.proofs.lowerer.parts_join.Goals as goal

pub returns : goal.returns
returns c = joined.parts_join
