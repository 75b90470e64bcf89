use Rattle.std.proofs.Common.{◌-◌}
use Rattle.nor_erase.proofs.TileLemmas.{IsTiledTo}
use Rattle.nor_erase.proofs.tiles.push_blocks.Given as goal

-- the blocks so far tile the stretch up to the next start
abbrev pub invariant-loop-block : goal.invariant-loop-block
invariant-loop-block l = IsTiledTo l.meaning l.strategy l.low l.high l.start l.fn.units.items l.units.items

abbrev pub decreases-loop-block : goal.decreases-loop-block
decreases-loop-block l = l.high - l.start
