-- Which exchange with a device ended a step that isn't done, and whether steps were sent (this project's).
use Rattle.std.specs.Prelude.{ℕ, ◌==◌, not, Bool, true, false, Option, Some, None}
use Rattle.nor_serprog.specs.declared.fault.Fault.{Fault}
use Rattle.norprog_device.specs.declared.failure.Failure.{Failure}
use Rattle.norprog_device.specs.declared.failure.Failure.TheVariants as failure

-- how the exchange of the step, or of the reading back after all steps, ended early, if one did
abbrev pub fault_of_failure : Failure → Option Fault
fault_of_failure (failure.Exchange why) = Some why
fault_of_failure other = None

-- steps were sent where this one isn't done: none where one can't be done, and those before it where memory was refused
abbrev pub is_sent : ℕ → Failure → Bool
is_sent step failure.Carried = false
is_sent step failure.Memory = not (step == 0)
is_sent step other = true
