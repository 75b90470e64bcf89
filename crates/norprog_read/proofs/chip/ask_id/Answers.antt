-- It didn't come, or no chip drives it.
use Rattle.norprog_read.specs.Asked.{Undriven, Unsaid}
use Rattle.norprog_read.proofs.chip.ask_id.Goals as goal

pub returns-in-Ok-clause-stops : goal.returns-in-Ok-clause-stops
returns-in-Ok-clause-stops g c = Undriven c.in-Ok.id c.in-Ok.ensures.identifies (c.is_undriven.ensures.undriven c.if-is_undriven.true)

pub returns-in-Err-clause-stops : goal.returns-in-Err-clause-stops
returns-in-Err-clause-stops g c = Unsaid c.in-Err.why c.in-Err.ensures.identifies
