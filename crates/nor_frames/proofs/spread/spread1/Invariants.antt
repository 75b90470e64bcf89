use Rattle.std.proofs.Common.{◌≡◌, ◌*◌, take}
use Rattle.std.specs.Prelude.{flat_map}
use Rattle.nor_base.specs.Clocks.{bits}
use Rattle.nor_frames.proofs.spread.spread1.Given as goal

-- the symbols of the first so many chunks are written
abbrev pub invariant-loop-j : goal.invariant-loop-j
invariant-loop-j l = take (32 * l.j) l.front ≡ flat_map (flat_map bits) (take l.j l.chunks)
