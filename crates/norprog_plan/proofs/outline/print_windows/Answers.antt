-- The lines of a window follow those before.
use Rattle.std.proofs.Common.{◌∙◌, ◌++◌, [], List, option_map, sym, subst, ◌≡◌, ap, is_some}
use Rattle.std.specs.Io.KnownBytes.{Appends}
use Rattle.nor_job.specs.Written.{CountsReader, CountsWriter, of_reader, of_writer}
use Rattle.nor_base.proofs.DeviceLaws.{never_raised}
use Rattle.nor_base.specs.Device.{Cuts, raised}
use Rattle.nor_job.specs.declared.fault.BuildFault.TheVariants as fault
use Rattle.nor_job.specs.declared.job.Job.{Job}
use Rattle.nor_outline.specs.Lines.{lines_text}
use Rattle.nor_outline.specs.declared.line.PlanLine.{PlanLine}
use Rattle.nor_base.specs.Wire.{wire}
use Rattle.norprog.specs.Planner.{GoesOn}
use Rattle.norprog.specs.Windows.{IsCutPlan}
use Rattle.nor_base.proofs.FaultLaws.{handed_on, answered}
use Rattle.norprog_plan.specs.Sums.{AreSums, HasRoom}
use Rattle.norprog_plan.proofs.SumsLemmas.{adds_window, cut_before, cut_window, ends_on, prints_all, room_of}
use Rattle.norprog_plan.proofs.outline.print_windows.Goals as goal

pub returns-in_err-lines-clause-cut : goal.returns-in_err-lines-clause-cut
returns-in_err-lines-clause-cut g c =
    let v = c.loop-lines.invariant in
    let so = v.printed in
    let a = g.R.ByteIn.ahead c.args.content.now in
    let x = g.O.ByteOut.held c.args.out.now in
    let y = g.O.ByteOut.held c.loop-lines.out in
    handed_on _ _ _ c.from_residual.ensures.1
    (subst (λ (j : Job). IsCutPlan j (wire x a) (wire y (g.R.ByteIn.ahead c.next_window.new.content)) c.in_err-lines.field-0.0) v.job
    (c.in_err-lines.ensures.stopped a so.lines x y so.told so.put))

pub add-requires : goal.add-requires
add-requires g c =
    let v = c.loop-lines.invariant in
    let so = v.printed in
    let q = c.next_window.new.self in
    let lines = c.in-Some.lines.items in
    let a = g.R.ByteIn.ahead c.args.content.now in
    let after = g.R.ByteIn.ahead c.next_window.new.content in
    let goes = subst (λ o. GoesOn c.loop-lines.planner q (g.R.ByteIn.ahead c.loop-lines.content) after (option_map (λ lines. lines.items) o)) c.in-Some.is c.in_ok-lines.ensures.told in
    let begun = subst (λ (j : Job). AreSums j c.requires.sums.0 c.args.sums.now []) (sym v.job) c.requires.sums.1 in
    record {
      room = subst (λ (more : List PlanLine). HasRoom c.loop-lines.sums more) (sym c.deref.ensures.value)
          (room_of c.planned_lines.ensures.few q a after so.lines lines c.loop-lines.planner.job c.requires.sums.0 c.loop-lines.sums goes.0 (goes.3 a so.lines so.told)
          (so.sums c.requires.sums.0 begun));
    }

pub returns-in_err-add-clause-cut : goal.returns-in_err-add-clause-cut
returns-in_err-add-clause-cut g c =
    let v = c.loop-lines.invariant in
    let so = v.printed in
    let q = c.next_window.new.self in
    let lines = c.in-Some.lines.items in
    let a = g.R.ByteIn.ahead c.args.content.now in
    let x = g.O.ByteOut.held c.args.out.now in
    let y = g.O.ByteOut.held c.loop-lines.out in
    let after = g.R.ByteIn.ahead c.next_window.new.content in
    let goes = subst (λ o. GoesOn c.loop-lines.planner q (g.R.ByteIn.ahead c.loop-lines.content) after (option_map (λ lines. lines.items) o)) c.in-Some.is c.in_ok-lines.ensures.told in
    handed_on _ _ fault.Memory c.from_residual-in_err-add.ensures.1
    (subst (λ (j : Job). IsCutPlan j (wire x a) (wire y after) fault.Memory) (goes.1 ∙ v.job)
    (cut_before c.planned_lines.ensures.anywhere c.loop-lines.planner q c.args.sums.now c.loop-lines.sums a _ after x y lines so goes.0 (goes.3 a so.lines so.told)))

pub returns-in-Err-clause-cut : goal.returns-in-Err-clause-cut
returns-in-Err-clause-cut g c =
    let v = c.loop-lines.invariant in
    let so = v.printed in
    let q = c.next_window.new.self in
    let lines = c.in-Some.lines.items in
    let a = g.R.ByteIn.ahead c.args.content.now in
    let x = g.O.ByteOut.held c.args.out.now in
    let y = g.O.ByteOut.held c.loop-lines.out in
    let z = g.O.ByteOut.held c.write_lines.new.out in
    let after = g.R.ByteIn.ahead c.next_window.new.content in
    let goes = subst (λ o. GoesOn c.loop-lines.planner q (g.R.ByteIn.ahead c.loop-lines.content) after (option_map (λ lines. lines.items) o)) c.in-Some.is c.in_ok-lines.ensures.told in
    subst (λ (j : Job). IsCutPlan j (wire x a) (wire z after) fault.Write) (goes.1 ∙ v.job)
    (cut_window c.planned_lines.ensures.anywhere c.loop-lines.planner q c.args.sums.now c.loop-lines.sums a _ after x y z lines so goes.0 (goes.3 a so.lines so.told)
    (subst (λ (these : List PlanLine). Cuts y z (lines_text these)) c.deref-in-Some.ensures.value c.in-Err.ensures.bytes))

pub loop-lines-preserved : goal.loop-lines-preserved
loop-lines-preserved g c =
    let v = c.loop-lines.invariant in
    let so = v.printed in
    let q = c.next_window.new.self in
    let lines = c.in-Some.lines.items in
    let a = g.R.ByteIn.ahead c.args.content.now in
    let x = g.O.ByteOut.held c.args.out.now in
    let y = g.O.ByteOut.held c.loop-lines.out in
    let z = g.O.ByteOut.held c.write_lines.new.out in
    let after = g.R.ByteIn.ahead c.next_window.new.content in
    let goes = subst (λ o. GoesOn c.loop-lines.planner q (g.R.ByteIn.ahead c.loop-lines.content) after (option_map (λ lines. lines.items) o)) c.in-Some.is c.in_ok-lines.ensures.told in
    record {
      ready = goes.0;
      job = goes.1 ∙ v.job;
      printed = adds_window c.loop-lines.planner q c.args.sums.now c.loop-lines.sums c.add.new.self a _ after x y z lines so goes.1 (goes.3 a so.lines so.told)
          (λ job known told are. subst (λ (these : List PlanLine). AreSums job known c.add.new.self (told ++ these)) c.deref.ensures.value (c.in_ok-add.ensures.sums job known told are))
          (subst (λ (these : List PlanLine). Appends y z (lines_text these)) c.deref-in-Some.ensures.value c.in-Ok.ensures.bytes);
      reads = c.in_ok-lines.ensures.counts.0 ∙ v.reads;
      writes = c.in-Ok.ensures.count ∙ v.writes;
      marks = c.in_ok-add.ensures.drawn ∙ v.marks;
    }

pub returns-clause-printed : goal.returns-clause-printed
returns-clause-printed g c =
    let v = c.loop-lines.invariant in
    let q = c.next_window.new.self in
    let goes = ends_on (λ lines. lines.items) c.loop-lines.planner q (g.R.ByteIn.ahead c.loop-lines.content) (g.R.ByteIn.ahead c.next_window.new.content) c.in_ok-lines.field-0 c.in_default.not-Some c.in_ok-lines.ensures.told in
    prints_all c.args.planner.now c.loop-lines.planner q c.args.sums.now c.loop-lines.sums _ _ _ _ _ v.ready v.job v.printed goes.0 goes.1 goes.2

-- no fault of a window is the writer's
pub returns-in_err-lines-clause-counts : goal.returns-in_err-lines-clause-counts
returns-in_err-lines-clause-counts g c =
    let v = c.loop-lines.invariant in
    let why = c.in_err-lines.field-0.0 in
    let first = g.O.ByteOut.count c.args.out.now in
    let none = never_raised (of_writer why) c.in_err-lines.ensures.counts.1 in
    answered _
    (λ r. CountsReader (g.R.ByteIn.count c.args.content.now) (g.R.ByteIn.count c.next_window.new.content) r
    × CountsWriter first (g.O.ByteOut.count c.loop-lines.out) r × (is_some c.loop-lines.sums.marks ≡ is_some c.args.sums.now.marks)) why
    (c.in_err-lines.ensures.counts.0 ∙ ap (λ n. raised n (of_reader why)) v.reads, v.writes ∙ sym (ap (raised first) none), v.marks)
    c.from_residual.ensures.1
