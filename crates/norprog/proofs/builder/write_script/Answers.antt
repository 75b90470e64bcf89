-- The header, the windows, the lines that leave the mode, and the end line.
use Rattle.std.proofs.Common.{refl, sym, subst}
use Rattle.nor_base.specs.Wire.{wire}
use Rattle.norprog.specs.Windows.{IsCutScript}
use Rattle.nor_base.proofs.FaultLaws.{handed_on}
use Rattle.norprog.proofs.Script.Written.{memory_cut, header_cut, windows_cut, closing_cut, end_cut, whole_script}
use Rattle.norprog.proofs.builder.write_script.Goals as goal

pub returns-in_err-have-clause-cut : goal.returns-in_err-have-clause-cut
returns-in_err-have-clause-cut g c =
    let size = c.window_size-window.ensures.size in
    handed_on _ _ _ c.from_residual.ensures.1 (memory_cut c.args.job.now c.window_size-window.result _ _ size)

pub returns-in-Err-clause-cut : goal.returns-in-Err-clause-cut
returns-in-Err-clause-cut g c =
    let size = c.window_size-window.ensures.size in
    header_cut c.args.job.now c.window_size-window.result _ _ _ size c.in-Err.ensures.bytes

pub returns-in_err-told-clause-cut : goal.returns-in_err-told-clause-cut
returns-in_err-told-clause-cut g c =
    handed_on _ _ _ c.from_residual-in_err-told.ensures.1
    (windows_cut c.args.job.now _ _ _ _ _ c.in_err-told.field-0.0 c.requires.accepted c.in-Ok.ensures.bytes c.in_err-told.ensures.cut)

pub returns-in-Err-close-clause-cut : goal.returns-in-Err-close-clause-cut
returns-in-Err-close-clause-cut g c =
    let size = c.window_size-window.ensures.size in
    subst (IsCutScript c.args.job.now (wire (g.W.ByteOut.held c.args.out.now) (g.R.ByteIn.ahead c.args.content.now)) (wire (g.W.ByteOut.held c.close.new.out) (g.R.ByteIn.ahead c.write_windows.new.content)))
    (sym c.lifted.ensures)
    (closing_cut c.args.job.now c.write_windows.new.writer c.window_size-window.result _ _ _ _ _ _ c.in_ok-told.told c.in-Err-close.fault size c.in-Ok.ensures.bytes c.in_ok-told.ensures.done
    c.in-Err-close.ensures.lines c.in-Err-close.ensures.why)

pub returns-in-Ok-finish-clause-done : goal.returns-in-Ok-finish-clause-done
returns-in-Ok-finish-clause-done g c =
    whole_script c.args.job.now c.write_windows.new.writer _ _ _ _ _ _ _ c.in_ok-told.told c.in-Ok-close.last c.in-Ok.ensures.bytes c.in_ok-told.ensures.done
    c.in-Ok-close.ensures.lines c.in-Ok-close.ensures.steps c.in-Ok-finish.ensures.bytes

pub returns-clause-cut : goal.returns-clause-cut
returns-clause-cut g c =
    let size = c.window_size-window.ensures.size in
    end_cut c.args.job.now c.write_windows.new.writer c.window_size-window.result _ _ _ _ _ _ _ c.in_ok-told.told c.in-Ok-close.last _ size c.in-Ok.ensures.bytes c.in_ok-told.ensures.done
    c.in-Ok-close.ensures.lines c.in-Ok-close.ensures.steps refl c.in-Err-finish.ensures.bytes
