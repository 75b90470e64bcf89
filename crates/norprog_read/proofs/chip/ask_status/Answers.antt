-- Each reason is a way to stop.
use Rattle.norprog_read.specs.Asked.{Busy, Lost}
use Rattle.norprog_read.proofs.chip.ask_status.Goals as goal

pub returns-in-Err-Exchange-clause-stops : goal.returns-in-Err-Exchange-clause-stops
returns-in-Err-Exchange-clause-stops g c = Lost c.in-Err-Exchange.why (rw c.in-Err-Exchange.field-0-is at c.in-Err-Exchange.ensures.status)

pub returns-in-Err-Busy-clause-stops : goal.returns-in-Err-Busy-clause-stops
returns-in-Err-Busy-clause-stops g c = Busy (rw c.in-Err-Busy.field-0-is at c.in-Err-Busy.ensures.status)
