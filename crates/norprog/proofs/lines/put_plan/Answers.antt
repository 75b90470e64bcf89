-- The lines of a window follow those before.
use Rattle.std.proofs.Common.{◌≡◌, ◌∙◌, ◌++◌, List, option_map, sym, ap, subst}
use Rattle.std.specs.Io.KnownBytes.{Appends}
use Rattle.nor_job.specs.Written.{CountsReader, CountsWriter, of_reader, of_writer}
use Rattle.nor_base.specs.Device.{Ahead, Cuts, raised}
use Rattle.nor_job.specs.declared.fault.BuildFault.TheVariants as fault
use Rattle.nor_job.specs.declared.job.Job.{Job}
use Rattle.nor_outline.specs.Lines.{lines_text}
use Rattle.nor_outline.specs.declared.line.PlanLine.{PlanLine}
use Rattle.nor_base.specs.Wire.{wire}
use Rattle.norprog.specs.Planner.{Planning, IsReady, HasTold, GoesOn}
use Rattle.norprog.specs.Windows.{IsCutPlan}
use Rattle.nor_base.proofs.DeviceLaws.{Appends-append, never_raised}
use Rattle.nor_base.proofs.FaultLaws.{handed_on, answered}
use Rattle.norprog.proofs.Content.Plans.{ends_on, lines_two, written_cut}
use Rattle.norprog.proofs.lines.put_plan.Goals as goal

pub returns-in_err-lines-clause-cut : goal.returns-in_err-lines-clause-cut
returns-in_err-lines-clause-cut g c =
    let v = c.loop-lines.invariant in
    handed_on _ _ _ c.from_residual.ensures.1 (λ first told x has put.
    let so = v.put first told x has put in
    subst (λ (j : Job). IsCutPlan j (wire x first) (wire (g.W.ByteOut.held c.loop-lines.out) (g.R.ByteIn.ahead c.next_window.new.content)) c.in_err-lines.field-0.0) v.job
    (c.in_err-lines.ensures.stopped first so.0 x (g.W.ByteOut.held c.loop-lines.out) so.1 so.2))

pub returns-in-Err-clause-cut : goal.returns-in-Err-clause-cut
returns-in-Err-clause-cut g c = λ first told x has put.
    let v = c.loop-lines.invariant in
    let so = v.put first told x has put in
    let q = c.next_window.new.self in
    let lines = c.in-Some.lines.items in
    let after = g.R.ByteIn.ahead c.next_window.new.content in
    let y = g.W.ByteOut.held c.loop-lines.out in
    let z = g.W.ByteOut.held c.write_lines.new.out in
    let goes = subst (λ o. GoesOn c.loop-lines.planner q (g.R.ByteIn.ahead c.loop-lines.content) after (option_map (λ lines. lines.items) o)) c.in-Some.is c.in_ok-lines.ensures.told in
    subst (λ (j : Job). IsCutPlan j (wire x first) (wire z after) fault.Write) (goes.1 ∙ v.job)
    (written_cut q first after x y z so.0 lines goes.0 (goes.3 first so.0 so.1) so.2
    (subst (λ (these : List PlanLine). Cuts y z (lines_text these)) c.deref.ensures.value c.in-Err.ensures.bytes))

pub loop-lines-preserved : goal.loop-lines-preserved
loop-lines-preserved g c =
    let v = c.loop-lines.invariant in
    let q = c.next_window.new.self in
    let lines = c.in-Some.lines.items in
    let after = g.R.ByteIn.ahead c.next_window.new.content in
    let y = g.W.ByteOut.held c.loop-lines.out in
    let z = g.W.ByteOut.held c.write_lines.new.out in
    let goes = subst (λ o. GoesOn c.loop-lines.planner q (g.R.ByteIn.ahead c.loop-lines.content) after (option_map (λ lines. lines.items) o)) c.in-Some.is c.in_ok-lines.ensures.told in
    record {
      ready = goes.0;
      job = goes.1 ∙ v.job;
      put = λ first told x has put.
          let so = v.put first told x has put in (
            so.0 ++ lines,
            goes.3 first so.0 so.1,
            subst (Appends x z) (sym (lines_two so.0 lines)) (Appends-append x y z (lines_text so.0) (lines_text lines) so.2
                (subst (λ (these : List PlanLine). Appends y z (lines_text these)) c.deref.ensures.value c.in-Ok.ensures.bytes)),
          );
      reads = c.in_ok-lines.ensures.counts.0 ∙ v.reads;
      writes = c.in-Ok.ensures.count ∙ v.writes;
    }

pub returns-clause-put : goal.returns-clause-put
returns-clause-put g c =
    let v = c.loop-lines.invariant in
    let q = c.next_window.new.self in
    let after = g.R.ByteIn.ahead c.next_window.new.content in
    let goes = ends_on (λ lines. lines.items) c.loop-lines.planner q (g.R.ByteIn.ahead c.loop-lines.content) after c.in_ok-lines.field-0 c.in_default.not-Some c.in_ok-lines.ensures.told in
    record {
      ready = subst IsReady (sym goes.0) v.ready;
      job = ap (λ (q : Planning). q.job) goes.0 ∙ v.job;
      whole = subst (λ (q : Planning). q.at ≡ q.job.meaning.size) (sym goes.0) goes.2;
      put = λ first told x has put.
          let so = v.put first told x has put in (
            so.0,
            subst (λ (q : Planning). HasTold q first after so.0) (sym goes.0) (subst (λ (b : Ahead). HasTold c.loop-lines.planner first b so.0) (sym goes.1) so.1),
            so.2,
          );
    }

-- no fault of a window is the writer's
pub returns-in_err-lines-clause-counts : goal.returns-in_err-lines-clause-counts
returns-in_err-lines-clause-counts g c =
    let v = c.loop-lines.invariant in
    let why = c.in_err-lines.field-0.0 in
    let first = g.W.ByteOut.count c.args.out.now in
    let none = never_raised (of_writer why) c.in_err-lines.ensures.counts.1 in
    answered _ (λ r. CountsReader (g.R.ByteIn.count c.args.content.now) (g.R.ByteIn.count c.next_window.new.content) r × CountsWriter first (g.W.ByteOut.count c.loop-lines.out) r) why
    (c.in_err-lines.ensures.counts.0 ∙ ap (λ n. raised n (of_reader why)) v.reads, v.writes ∙ sym (ap (raised first) none))
    c.from_residual.ensures.1
