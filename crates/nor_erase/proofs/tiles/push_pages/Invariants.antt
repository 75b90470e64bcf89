use Rattle.std.proofs.Common.{◌-◌}
use Rattle.nor_erase.proofs.TileLemmas.{ArePaged}
use Rattle.nor_erase.proofs.tiles.push_pages.Given as goal

-- the pages so far
abbrev pub invariant-loop-start : goal.invariant-loop-start
invariant-loop-start l = ArePaged l.have l.want l.at l.meaning.page l.low l.high l.start l.fn.units.items l.units.items

abbrev pub decreases-loop-start : goal.decreases-loop-start
decreases-loop-start l = l.high - l.start
