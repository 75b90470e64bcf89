-- The first data records are put.
use Rattle.std.proofs.Common.{◌≡◌}
use Rattle.std.specs.Io.KnownBytes.{Appends}
use Rattle.nor_hex.proofs.RowLemmas.{first_rows}
use Rattle.nor_hex.proofs.writer.put_rows.Given as goal

abbrev pub invariant-loop-number : goal.invariant-loop-number
invariant-loop-number g l = record {
  put : Appends (g.W.ByteOut.held l.fn.out) (g.W.ByteOut.held l.out) (first_rows l.offset l.bytes l.number);
  count : g.W.ByteOut.count l.out ≡ g.W.ByteOut.count l.fn.out;
}
