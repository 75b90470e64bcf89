-- The lines are made, then written.
use Rattle.std.proofs.Common.{subst}
use Rattle.std.specs.Io.KnownBytes.{Appends}
use Rattle.nor_base.specs.Device.{Cuts}
use Rattle.nor_outline.specs.Lines.{lines_text}
use Rattle.nor_base.proofs.FaultLaws.{handed_on}
use Rattle.nor_outline.proofs.PlanText.{refused, lines_wrote, lines_cut}
use Rattle.nor_outline.proofs.plan.PlanWriterWorkWriter.write_window.Goals as goal

pub returns-in_err-told-clause-stopped : goal.returns-in_err-told-clause-stopped
returns-in_err-told-clause-stopped g c =
    handed_on _ _ _ c.from_residual.ensures.1
    (refused c.args.self.now _ c.args.at c.args.have.now c.args.want.now c.in_err-told.field-0.0 c.in_err-told.ensures.stopped)

pub returns-in_err-write_lines-clause-stopped : goal.returns-in_err-write_lines-clause-stopped
returns-in_err-write_lines-clause-stopped g c =
    handed_on _ _ _ c.from_residual-in_err-write_lines.ensures.1
    (lines_cut c.args.self.now (g.W.ByteOut.held c.args.out.now) (g.W.ByteOut.held c.write_lines.new.out) c.args.at c.args.have.now c.args.want.now
    c.in_ok-told.lines.items c.in_ok-told.ensures.lines
    (subst (λ ls. Cuts (g.W.ByteOut.held c.args.out.now) (g.W.ByteOut.held c.write_lines.new.out) (lines_text ls)) c.deref.ensures.value
    c.in_err-write_lines.ensures.bytes))

pub returns-clause-written : goal.returns-clause-written
returns-clause-written g c =
    lines_wrote c.args.self.now c.window_plan.new.self (g.W.ByteOut.held c.args.out.now) (g.W.ByteOut.held c.write_lines.new.out) c.args.at c.args.have.now
    c.args.want.now c.in_ok-told.told c.in_ok-told.lines.items c.in_ok-told.ensures.told c.in_ok-told.ensures.lines
    (subst (λ ls. Appends (g.W.ByteOut.held c.args.out.now) (g.W.ByteOut.held c.write_lines.new.out) (lines_text ls)) c.deref.ensures.value
    c.in_ok-write_lines.ensures.bytes)
