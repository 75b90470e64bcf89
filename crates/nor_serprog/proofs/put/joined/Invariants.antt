-- The parts so far, joined.
use Rattle.std.proofs.Common.{◌≡◌, take}
use Rattle.std.specs.Prelude.{flat_map}
use Rattle.nor_serprog.proofs.put.joined.Given as goal

abbrev pub invariant-loop-part : goal.invariant-loop-part
invariant-loop-part l = l.command.items ≡ flat_map (λ part. part.now) (take l.part-index l.parts)
