-- At a failure the lines before this one were put, and a proper prefix of it.
use Rattle.std.proofs.Common.{List, ℕ, subst}
use Rattle.nor_base.specs.Device.{Cuts}
use Rattle.nor_base.specs.Script.{closed}
use Rattle.nor_base.proofs.DeviceLaws.{Cuts-at, Writes-cut}
use Rattle.nor_outline.specs.Lines.{line_words}
use Rattle.nor_outline.proofs.writer.write_lines.Goals as goal

pub returns-in_err-write_line-clause-bytes : goal.returns-in_err-write_line-clause-bytes
returns-in_err-write_line-clause-bytes g c =
    Writes-cut _ _ _ _ c.from_residual.ensures.0
    (Cuts-at (λ line. closed (line_words line)) c.args.lines.now _ c.loop-line.line-index _ _ _ c.loop-line-test.true c.loop-line.invariant.put
    (subst (λ (text : List ℕ). Cuts (g.W.ByteOut.held c.loop-line.out) (g.W.ByteOut.held c.write_line.new.out) text) c.in_err-write_line.ensures.words
    c.in_err-write_line.ensures.bytes))
