-- A window that was read, and its text.
use Rattle.std.proofs.Common.{List, ℕ, rules, length, sym, subst}
use Rattle.nor_steps.specs.Stretch.{stretch}
use Rattle.nor_steps.specs.Texts.{StopsText}
use Rattle.nor_steps.specs.Writing.{output}
use Rattle.nor_base.specs.Wire.{wire}
use Rattle.norprog.specs.Windows.{progress, window_of, StopsWindow}
use Rattle.nor_job.specs.Written.{AreBytes}
use Rattle.norprog.proofs.Content.Windows.{ended}
use Rattle.norprog.proofs.windows.write_window.Goals as goal

pub returns-in-Err-clause-stopped : goal.returns-in-Err-clause-stopped
returns-in-Err-clause-stopped g c =
    let have = c.fill_window.new.window in
    let target = c.fill.ensures.bytes in
    subst (StopsWindow (g.T.WorkWriter.unit_text c.args.writer.now) (window_of c.args.job.now c.args.at (length c.args.have.now)) (progress (g.T.WorkWriter.writing c.args.writer.now) (g.W.ByteOut.held c.args.out.now) (g.R.ByteIn.ahead c.args.content.now)) (wire (g.W.ByteOut.held c.write_window.new.out) (g.R.ByteIn.ahead c.fill_window.new.content))) (sym c.lifted.ensures)
    (ended (g.T.WorkWriter.unit_text c.args.writer.now) c.args.job.now (g.T.WorkWriter.writing c.args.writer.now) c.args.at (length c.args.have.now) _ _ _ _ c.in-Err.fault
    (record {
      part = have;
      size = c.fill_window.auto.window;
      given = c.in_ok-fill_window.ensures.bytes;
      bytes = subst AreBytes target (search rules);
      stops = subst (λ (want : List ℕ). StopsText (g.T.WorkWriter.unit_text c.args.writer.now) (output (g.T.WorkWriter.writing c.args.writer.now) (g.W.ByteOut.held c.args.out.now)) (g.W.ByteOut.held c.write_window.new.out) (stretch c.args.at have want) c.in-Err.fault)
          target c.in-Err.ensures.stopped;
    }))
