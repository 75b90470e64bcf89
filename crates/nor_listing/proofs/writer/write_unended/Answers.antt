-- The first line was put, and the lines of the steps.
use Rattle.nor_base.specs.Chip.{begins4}
use Rattle.nor_base.proofs.DeviceLaws.{Writes-cut}
use Rattle.nor_listing.proofs.ListLemmas.{first_cut, lines_put}
use Rattle.nor_listing.proofs.writer.write_unended.Goals as goal

pub returns-in_err-begin-clause-bytes : goal.returns-in_err-begin-clause-bytes
returns-in_err-begin-clause-bytes g c =
    let m = c.args.meaning.now in
    Writes-cut _ _ _ _ c.from_residual.ensures.0
    (first_cut m (begins4 m c.args.start.now) c.begins4-mode4.result c.args.steps.now c.begins4-mode4.ensures _ _ c.in_err-begin.ensures.bytes)

pub returns-clause-bytes : goal.returns-clause-bytes
returns-clause-bytes g c =
    let m = c.args.meaning.now in
    lines_put m (begins4 m c.args.start.now) c.begins4-mode4.result c.args.steps.now c.begins4-mode4.ensures _ _ _ _
    c.in_ok-begin.ensures.bytes c.put_lines.ensures.bytes
