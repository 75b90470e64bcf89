use Rattle.std.proofs.Common.{◌-◌, ◌≤◌, length, take}
use Rattle.std.specs.Ordering.{nat_cmp}
use Rattle.std.specs.BTreeMap.{get}
use Rattle.nor_hex.specs.Pieces.{Gives, IsPieces, AddsRun}
use Rattle.nor_hex.proofs.pieces.add_run.Given as goal

abbrev pub decreases-loop-done : goal.decreases-loop-done
decreases-loop-done g l = length l.bytes - l.done

abbrev pub invariant-loop-done : goal.invariant-loop-done
invariant-loop-done g l = record {
  within : l.done ≤ length l.bytes;
  pieces : IsPieces (get nat_cmp l.pieces.by_last) l.pieces.bytes.items;
  added : AddsRun (Gives (get nat_cmp l.fn.pieces.by_last) l.fn.pieces.bytes.items) (Gives (get nat_cmp l.pieces.by_last) l.pieces.bytes.items) l.address (take l.done l.bytes);
}
