-- The bytes of the steps so far.
use Rattle.std.proofs.Common.{◌≡◌, ◌-◌, ◌^◌, take}
use Rattle.std.specs.Prelude.{min, sum_by}
use Rattle.nor_flasher.specs.Packed.{mark_bytes}
use Rattle.nor_flasher.proofs.packed.PackedSteps.bus_bytes.Given as goal

abbrev pub invariant-loop-mark : goal.invariant-loop-mark
invariant-loop-mark l = l.all ≡ min (2 ^ 64 - 1) (sum_by mark_bytes (take l.mark-index l.mark-items))
