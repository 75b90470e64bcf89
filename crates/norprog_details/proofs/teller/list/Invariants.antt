-- The lines of the first subjects are put.
use Rattle.std.proofs.Common.{◌≡◌, take}
use Rattle.std.specs.Prelude.{flat_map}
use Rattle.std.specs.Io.KnownBytes.{Appends}
use Rattle.norprog_details.specs.Explained.{listed, in_order}
use Rattle.norprog_details.proofs.teller.list.Given as goal

abbrev pub invariant-loop-topics : goal.invariant-loop-topics
invariant-loop-topics g l = record {
  put : Appends (g.O.ByteOut.held l.fn.out) (g.O.ByteOut.held l.out) (flat_map listed (in_order (take l.topics-index l.subjects)));
  count : g.O.ByteOut.count l.out ≡ g.O.ByteOut.count l.fn.out;
}
