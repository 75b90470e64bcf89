-- The header, one line more, a line that is cut, and the end.
use Rattle.std.proofs.Common.{◌∙◌, arith}
use Rattle.nor_base.proofs.DeviceLaws.{Writes-cut}
use Rattle.norprog_script.proofs.TextLemmas.{header_cut, none_yet, one_more, one_cut, all_written}
use Rattle.norprog_script.proofs.text.write_script.Goals as goal

pub returns-in_err-begin-clause-bytes : goal.returns-in_err-begin-clause-bytes
returns-in_err-begin-clause-bytes g c =
    Writes-cut _ _ _ _ c.from_residual.ensures.0 (header_cut c.args.steps.now _ _ c.in_err-begin.ensures.bytes)

pub loop-step-init : goal.loop-step-init
loop-step-init g c = record {
  written = none_yet c.args.steps.now _ _ c.in_ok-begin.ensures.bytes;
  count = c.in_ok-begin.ensures.count;
}

pub returns-in_err-write_step-clause-bytes : goal.returns-in_err-write_step-clause-bytes
returns-in_err-write_step-clause-bytes g c =
    Writes-cut _ _ _ _ c.from_residual-in_err-write_step.ensures.0
    (one_cut c.args.steps.now c.loop-step.step-index c.step-item.result _ _ _ c.loop-step-test.true c.step-item.is c.loop-step.invariant.written c.in_err-write_step.ensures.bytes)

pub loop-step-preserved : goal.loop-step-preserved
loop-step-preserved g c = record {
  written = one_more c.args.steps.now c.loop-step.step-index c.step-item.result _ _ _ c.loop-step-test.true c.step-item.is c.loop-step.invariant.written
      c.in_ok-write_step.ensures.bytes;
  count = c.in_ok-write_step.ensures.count ∙ c.loop-step.invariant.count;
}

pub returns-clause-bytes : goal.returns-clause-bytes
returns-clause-bytes g c =
    all_written c.args.steps.now c.loop-step.step-index _ _ _ _ (omega (arith, c.loop-step-test.false)) c.loop-step.invariant.written c.finish.ensures.bytes
