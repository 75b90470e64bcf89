-- What was put so far is what comes before this one, joined.
use Rattle.std.proofs.Common.{◌≡◌, take}
use Rattle.std.specs.Prelude.{flat_map}
use Rattle.std.specs.Io.KnownBytes.{Appends}
use Rattle.norprog_flash.specs.State.{region_word}
use Rattle.norprog_flash.proofs.options.write_names.Given as goal

abbrev pub invariant-loop-region : goal.invariant-loop-region
invariant-loop-region g l = record {
  put : Appends (g.W.ByteOut.held l.fn.writer) (g.W.ByteOut.held l.writer) (flat_map region_word (take l.region-index l.regions));
  count : g.W.ByteOut.count l.writer ≡ g.W.ByteOut.count l.fn.writer;
}
