-- The symbols by their weights.
use Rattle.std.proofs.Common.{◌≡◌, ◌/◌, arith}
use Rattle.nor_base.specs.Clocks.{bits}
use Rattle.nor_frames.proofs.spread.symbols_of.Goals as goal

pub returns : goal.returns
unfolding bits
returns c = let last : c.args.byte / 1 ≡ c.args.byte = omega arith in rw last
