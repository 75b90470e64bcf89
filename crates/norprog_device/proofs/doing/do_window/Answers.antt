-- The device halted in the window.
use Rattle.std.proofs.Common.{refl}
use Rattle.norprog_device.proofs.doing.do_window.Goals as goal

pub returns-in-Err-clause-stopped : goal.returns-in-Err-clause-stopped
returns-in-Err-clause-stopped g c = rw (← c.doing.view_is) (record { halt = c.in-Err.halt; why = c.failure_at.result; halted = c.in-Err.ensures.done; failed = c.failure_at.ensures }, refl)
