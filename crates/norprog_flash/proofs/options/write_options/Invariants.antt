-- What was put so far is what comes before this one, joined.
use Rattle.std.proofs.Common.{◌≡◌, take}
use Rattle.std.specs.Prelude.{flat_map}
use Rattle.std.specs.Io.KnownBytes.{Appends}
use Rattle.norprog_flash.specs.State.{given_text}
use Rattle.norprog_flash.proofs.options.write_options.Given as goal

abbrev pub invariant-loop-option : goal.invariant-loop-option
invariant-loop-option g l = record {
  put : Appends (g.W.ByteOut.held l.fn.writer) (g.W.ByteOut.held l.writer) (flat_map given_text (take l.option-index l.options));
  count : g.W.ByteOut.count l.writer ≡ g.W.ByteOut.count l.fn.writer;
}
