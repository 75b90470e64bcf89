-- What was put so far is the text of the lines before this one.
use Rattle.std.proofs.Common.{◌≡◌, take}
use Rattle.std.specs.Io.KnownBytes.{Appends}
use Rattle.nor_outline.specs.Lines.{lines_text}
use Rattle.nor_outline.proofs.writer.write_lines.Given as goal

abbrev pub invariant-loop-line : goal.invariant-loop-line
invariant-loop-line g l = record {
  put : Appends (g.W.ByteOut.held l.fn.out) (g.W.ByteOut.held l.out) (lines_text (take l.line-index l.lines));
  count : g.W.ByteOut.count l.out ≡ g.W.ByteOut.count l.fn.out;
}
