-- What was put so far is what comes before this one, joined.
use Rattle.std.proofs.Common.{◌≡◌, take}
use Rattle.std.specs.Prelude.{flat_map}
use Rattle.std.specs.Io.KnownBytes.{Appends}
use Rattle.norprog_device.specs.Shell.{quoted}
use Rattle.norprog_device.proofs.shell.write_quoted.Given as goal

abbrev pub invariant-loop-byte : goal.invariant-loop-byte
invariant-loop-byte g l = record {
  put : Appends (g.W.ByteOut.held l.fn.writer) (g.W.ByteOut.held l.writer) (flat_map quoted (take l.byte-index l.text));
  count : g.W.ByteOut.count l.writer ≡ g.W.ByteOut.count l.fn.writer;
}
