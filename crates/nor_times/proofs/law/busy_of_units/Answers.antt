-- Unit by unit.
use Rattle.nor_times.proofs.BusyLemmas.{busy_is_of_units}
use Rattle.nor_times.proofs.law.busy_of_units.Goals as goal

pub returns : goal.returns
returns c = busy_is_of_units c.erased_blocks.ensures.blocks c.erases_are_named.ensures
