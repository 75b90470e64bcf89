use Rattle.std.proofs.Common.{◌-◌, length}
use Rattle.nor_base.specs.Target.{target_byte}
use Rattle.nor_hex.specs.Image.{byte_at}
use Rattle.nor_layout.specs.Chosen.{has}
use Rattle.nor_target.proofs.RunLemmas.{IsFilled}
use Rattle.nor_target.proofs.fill.Given as goal

abbrev pub decreases-loop-begin : goal.decreases-loop-begin
decreases-loop-begin l = length l.have - l.done

-- the bytes below `done` are those of the target, and the others those that were there
abbrev pub invariant-loop-begin : goal.invariant-loop-begin
invariant-loop-begin l = IsFilled (target_byte (byte_at l.image) l.base (has l.chosen)) l.at l.have l.want l.done
