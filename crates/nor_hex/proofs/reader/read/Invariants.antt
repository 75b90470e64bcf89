use Rattle.std.proofs.Common.{map}
use Rattle.std.specs.Ordering.{nat_cmp}
use Rattle.std.specs.BTreeMap.{get}
use Rattle.nor_hex.specs.Pieces.{Gives, IsPieces}
use Rattle.nor_hex.proofs.FaultLemmas.{ReadSoFar}
use Rattle.nor_hex.proofs.reader.read.Given as goal

abbrev pub invariant-loop-number : goal.invariant-loop-number
invariant-loop-number l = record {
  pieces : IsPieces (get nat_cmp l.pieces.by_last) l.pieces.bytes.items;
  read : ReadSoFar l.text (map (λ line. (line.0, line.1.now)) l.yielded) l.number-iterator (Gives (get nat_cmp l.pieces.by_last) l.pieces.bytes.items) l.base l.ended;
}
