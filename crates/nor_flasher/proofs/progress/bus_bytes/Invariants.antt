-- The bytes of the steps so far.
use Rattle.std.proofs.Common.{◌≡◌, ◌-◌, ◌^◌, take}
use Rattle.std.specs.Prelude.{min, sum_by}
use Rattle.nor_flasher.specs.Progress.{step_bytes}
use Rattle.nor_flasher.proofs.progress.bus_bytes.Given as goal

abbrev pub invariant-loop-step : goal.invariant-loop-step
invariant-loop-step l = l.all ≡ min (2 ^ 64 - 1) (sum_by step_bytes (take l.step-index l.steps))
