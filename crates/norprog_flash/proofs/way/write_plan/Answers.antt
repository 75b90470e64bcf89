-- The lines, and the report.
use Rattle.std.proofs.Common.{Bool, List, ℕ, subst}
use Rattle.std.specs.Io.KnownBytes.{Appends}
use Rattle.nor_base.proofs.DeviceLaws.{Writes-then}
use Rattle.norprog.specs.Report.{report_text}
use Rattle.norprog_flash.specs.Way.{is_listed, lines_text}
use Rattle.norprog_flash.proofs.way.write_plan.Goals as goal

pub returns-clause-bytes : goal.returns-clause-bytes
returns-clause-bytes g c =
    let work = c.args.work.now in
    let before = g.O.ByteOut.held c.args.out.now in
    let middle = g.O.ByteOut.held c.write_lines.new.out in
    let slice = subst (λ (lines : List ℕ). Appends before middle (lines_text c.is_listed.result lines)) c.as_slice.ensures.value
    c.in_ok-write_lines.ensures.bytes in
    let lines = subst (λ (b : Bool). Appends before middle (lines_text b work.lines.items)) c.is_listed.ensures slice in
    Writes-then _ _ _ c.write_report.result (lines_text (is_listed c.args.job.now) work.lines.items) (report_text work.report) lines
    c.write_report.ensures.bytes
