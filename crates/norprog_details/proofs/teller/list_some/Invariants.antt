-- The lines of the first topics are put.
use Rattle.std.proofs.Common.{◌≡◌, take}
use Rattle.std.specs.Prelude.{flat_map}
use Rattle.std.specs.Io.KnownBytes.{Appends}
use Rattle.norprog_details.specs.Explained.{listed, told}
use Rattle.norprog_details.proofs.teller.list_some.Given as goal

abbrev pub invariant-loop-words : goal.invariant-loop-words
invariant-loop-words g l = record {
  put : Appends (g.O.ByteOut.held l.fn.out) (g.O.ByteOut.held l.out) (flat_map listed (told (take l.words-index l.topics)));
  count : g.O.ByteOut.count l.out ≡ g.O.ByteOut.count l.fn.out;
}
