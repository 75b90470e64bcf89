use Rattle.std.proofs.Common.{◌-◌, ◌^◌}
use Rattle.std.specs.Ordering.{nat_cmp}
use Rattle.std.specs.BTreeMap.{get}
use Rattle.nor_hex.specs.Pieces.{Gives, IsPieces}
use Rattle.nor_hex.proofs.UnionLemmas.{LaysBelow}
use Rattle.nor_hex.proofs.union.add_image.Given as goal

abbrev pub invariant-loop-at : goal.invariant-loop-at
invariant-loop-at g l = record {
  pieces : IsPieces (get nat_cmp l.pieces.by_last) l.pieces.bytes.items;
  lays : LaysBelow (Gives (get nat_cmp l.fn.pieces.by_last) l.fn.pieces.bytes.items) (Gives (get nat_cmp l.pieces.by_last) l.pieces.bytes.items) l.image l.from;
}

abbrev pub decreases-loop-at : goal.decreases-loop-at
decreases-loop-at g l = 2 ^ 32 - l.from
