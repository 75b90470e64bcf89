-- The lines of the first steps are put.
use Rattle.std.proofs.Common.{◌≡◌}
use Rattle.nor_listing.proofs.ListLemmas.{AreListed}
use Rattle.nor_listing.proofs.writer.put_lines.Given as goal

abbrev pub invariant-loop-number : goal.invariant-loop-number
invariant-loop-number g l = record {
  listed : AreListed l.meaning l.fn.mode4 l.steps (g.W.ByteOut.held l.fn.out) (g.W.ByteOut.held l.out) l.number l.mode4;
  count : g.W.ByteOut.count l.out ≡ g.W.ByteOut.count l.fn.out;
}
