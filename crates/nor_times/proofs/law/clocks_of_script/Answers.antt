-- By the laws of erased blocks.
use Rattle.nor_times.proofs.ScriptLemmas.{bus_is_of_script}
use Rattle.nor_times.proofs.law.clocks_of_script.Goals as goal

pub returns : goal.returns
returns c = bus_is_of_script c.blocks-2.ensures.blocks c.erased_blocks.ensures.blocks
