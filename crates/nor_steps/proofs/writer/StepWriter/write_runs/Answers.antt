-- One run after another.
use Rattle.std.proofs.Common.{◌≡◌, ◌∙◌, [], ◌∷◌, get_or, length, map, take, refl, ap, subst, arith}
use Rattle.std.specs.Io.KnownBytes.{Appends}
use Rattle.nor_base.specs.Operations.{Op}
use Rattle.nor_select.specs.Streamed.{next}
use Rattle.nor_select.specs.View.{op_of}
use Rattle.nor_steps.specs.Units.{run_op}
use Rattle.nor_steps.specs.Writing.{Begins, next_lines, written_on}
use Rattle.nor_steps.proofs.LineLemmas.{adds_err}
use Rattle.nor_steps.proofs.OpLemmas.{map_one, map_all, next_lines_one, done_none, done_one}
use Rattle.nor_steps.proofs.writer.StepWriter.write_runs.Goals as goal
use Rattle.nor_steps.proofs.writer.StepWriter.write_runs.Goals.{then-read, else-read}

pub loop-run-init : goal.loop-run-init
loop-run-init g c = record { done = done_none _ _; few = omega arith; count = refl }

pub returns-in_err-steps-clause-lines : goal.returns-in_err-steps-clause-lines
returns-in_err-steps-clause-lines g c =
    let f = run_op c.args.read c.args.start c.args.want.now in
    let is : op_of c.if-read.op ≡ f (get_or c.args.runs.now c.loop-run.run-index (record { at = 0; len = 0 })) =
    elim c.if-read.branch [ then-read w ↦ rw (w.op-is, w.if-read.true) refl | else-read w ↦ rw (w.op-is, w.if-read.false) refl ] in
    adds_err _ _ _ _ c.from_residual.ensures.0
    (next_lines_one _ _ _ _ _ (map f (take c.loop-run.run-index c.args.runs.now)) _ _ _ c.loop-run.invariant.done.put c.loop-run.invariant.done.state
    (subst (λ (op : Op). Begins (g.W.InstrOut.held c.loop-run.out) (g.W.InstrOut.held c.write_ops.new.out) (next_lines c.loop-run.self (op ∷ []))) is c.in_err-steps.ensures.lines)
    (map_all f c.args.runs.now c.loop-run.run-index _ c.loop-run-test.true))

pub loop-run-preserved : goal.loop-run-preserved
loop-run-preserved g c =
    let f = run_op c.args.read c.args.start c.args.want.now in
    let v = c.loop-run.self in
    let is : op_of c.if-read.op ≡ f (get_or c.args.runs.now c.loop-run.run-index (record { at = 0; len = 0 })) =
    elim c.if-read.branch [ then-read w ↦ rw (w.op-is, w.if-read.true) refl | else-read w ↦ rw (w.op-is, w.if-read.false) refl ] in
    record {
      done = done_one _ _ _ _ _ _ _ _ _ _ _ _ c.loop-run.invariant.done
          (subst (λ (op : Op). Appends (g.W.InstrOut.held c.loop-run.out) (g.W.InstrOut.held c.write_ops.new.out) (next_lines v (op ∷ []))) is c.in_ok-steps.ensures.lines)
          (c.in_ok-steps.ensures.onward ∙ ap (λ (op : Op). written_on v (op ∷ [])) is)
          (c.in_ok-steps.ensures.steps ∙ ap (λ (op : Op). length (next v.streaming (op ∷ []))) is) refl
          (map_one f c.args.runs.now c.loop-run.run-index _ c.loop-run-test.true);
      few = omega (arith, c.loop-run.invariant.few, c.in_ok-steps.ensures.few);
      count = c.in_ok-steps.ensures.fails.0 ∙ c.loop-run.invariant.count;
    }
