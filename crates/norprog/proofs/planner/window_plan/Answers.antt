-- A window that was read, and its lines.
use Rattle.std.proofs.Common.{◌≡◌, List, ℕ, rules, length, subst, sym}
use Rattle.nor_base.specs.Device.{raised}
use Rattle.nor_job.specs.Written.{AreBytes, CountsWriter, of_writer}
use Rattle.nor_outline.specs.Outline.{RefusesLines}
use Rattle.nor_base.proofs.FaultLaws.{answered, handed_on}
use Rattle.nor_steps.specs.Stretch.{stretch}
use Rattle.norprog.specs.Planner.{StopsPlanning}
use Rattle.norprog.specs.Windows.{window_of}
use Rattle.norprog.proofs.Content.Plans.{unread, unread_count, unplanned, unplanned_count, planned_part}
use Rattle.norprog.proofs.planner.window_plan.Goals as goal

pub returns-in_err-fill_window-clause-stopped : goal.returns-in_err-fill_window-clause-stopped
returns-in_err-fill_window-clause-stopped g c =
    handed_on _ _ _ c.from_residual.ensures.1
    (unread c.args.job.now c.args.writer.now c.args.at (length c.args.have.now) _ _ c.fill_window.new.window c.in_err-fill_window.field-0.0 c.fill_window.auto.window c.in_err-fill_window.ensures.bytes)

pub returns-in-Ok-clause-planned : goal.returns-in-Ok-clause-planned
returns-in-Ok-clause-planned g c =
    let have = c.fill_window.new.window in
    let target = c.fill.ensures.bytes in
    planned_part c.args.job.now c.args.writer.now c.window_plan.new.self c.args.at (length c.args.have.now) _ _ have c.fill.new.want c.in-Ok.plan.0 c.in-Ok.plan.1.items
    c.fill_window.auto.window c.in_ok-fill_window.ensures.bytes (subst AreBytes target (search rules)) target c.requires.window.1 c.requires.window.2 c.in-Ok.ensures.told c.in-Ok.ensures.lines

pub returns-in-Err-clause-stopped : goal.returns-in-Err-clause-stopped
returns-in-Err-clause-stopped g c =
    let have = c.fill_window.new.window in
    let target = c.fill.ensures.bytes in
    subst (StopsPlanning (window_of c.args.job.now c.args.at (length c.args.have.now)) c.args.writer.now (g.R.ByteIn.ahead c.args.content.now) (g.R.ByteIn.ahead c.fill_window.new.content)) (sym c.lifted.ensures)
    (unplanned c.args.job.now c.args.writer.now c.args.at (length c.args.have.now) _ _ have c.in-Err.fault c.fill_window.auto.window (subst AreBytes target (search rules))
    c.in_ok-fill_window.ensures.bytes
    (subst (λ (want : List ℕ). RefusesLines c.args.writer.now.streaming.meaning c.args.writer.now.streaming.by (stretch c.args.at have want) c.in-Err.fault) target c.in-Err.ensures.stopped))

pub returns-in_err-fill_window-clause-counts : goal.returns-in_err-fill_window-clause-counts
returns-in_err-fill_window-clause-counts g c = (
  search rules,
  answered c.from_residual.result (CountsWriter 0 0) _ (unread_count _ _ c.fill_window.new.window c.in_err-fill_window.field-0.0 c.in_err-fill_window.ensures.bytes) c.from_residual.ensures.1,
)

pub returns-in-Err-clause-counts : goal.returns-in-Err-clause-counts
returns-in-Err-clause-counts g c = (
  search rules,
  subst (λ why. 0 ≡ raised 0 (of_writer why)) (sym c.lifted.ensures) (unplanned_count _ _ _ _ _ c.in-Err.fault c.in-Err.ensures.stopped),
)
