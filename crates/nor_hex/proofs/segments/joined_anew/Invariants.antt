use Rattle.std.proofs.Common.{◌-◌, ◌^◌}
use Rattle.std.specs.Ordering.{nat_cmp}
use Rattle.std.specs.BTreeMap.{get}
use Rattle.nor_hex.proofs.SegmentLemmas.{IsMade}
use Rattle.nor_hex.proofs.segments.joined_anew.Given as goal

abbrev pub decreases-loop-last : goal.decreases-loop-last
decreases-loop-last g l = 2 ^ 32 - l.from

abbrev pub invariant-loop-last : goal.invariant-loop-last
invariant-loop-last g l = IsMade (get nat_cmp l.pieces.by_last) l.pieces.bytes.items l.list.items l.bytes.items l.from
