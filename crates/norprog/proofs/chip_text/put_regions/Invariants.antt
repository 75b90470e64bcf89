-- What was put so far is the lines of the regions before this one.
use Rattle.std.proofs.Common.{◌≡◌, take}
use Rattle.std.specs.Prelude.{flat_map}
use Rattle.std.specs.Io.KnownBytes.{Appends}
use Rattle.norprog.specs.ChipText.{region_text}
use Rattle.norprog.proofs.chip_text.put_regions.Given as goal

abbrev pub invariant-loop-region : goal.invariant-loop-region
invariant-loop-region g l = record {
  put : Appends (g.W.ByteOut.held l.fn.writer) (g.W.ByteOut.held l.writer) (flat_map region_text (take l.region-index l.regions));
  count : g.W.ByteOut.count l.writer ≡ g.W.ByteOut.count l.fn.writer;
}
