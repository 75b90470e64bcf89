-- One line more, a line that is cut, and the end.
use Rattle.std.proofs.Common.{◌∙◌, arith}
use Rattle.nor_base.proofs.DeviceLaws.{Writes-cut}
use Rattle.nor_listing.proofs.ListLemmas.{one_more, one_cut, all_listed}
use Rattle.nor_listing.proofs.writer.put_lines.Goals as goal

pub loop-number-preserved : goal.loop-number-preserved
loop-number-preserved g c = record {
  listed = one_more c.args.meaning.now c.args.mode4 c.args.steps.now _ _ _ c.loop-number.number c.loop-number.mode4 c.in_ok-mode4.mode4 c.index-steps-number.result
      c.loop-number.invariant.listed c.index-steps-number.is c.loop-number-test.true c.in_ok-mode4.ensures.bytes c.in_ok-mode4.ensures.mode;
  count = c.in_ok-mode4.ensures.count ∙ c.loop-number.invariant.count;
}

pub returns-in_err-mode4-clause-bytes : goal.returns-in_err-mode4-clause-bytes
returns-in_err-mode4-clause-bytes g c =
    Writes-cut _ _ _ _ c.from_residual.ensures.0
    (one_cut c.args.meaning.now c.args.mode4 c.args.steps.now _ _ _ c.loop-number.number c.loop-number.mode4 c.index-steps-number.result
    c.loop-number.invariant.listed c.index-steps-number.is c.loop-number-test.true c.in_err-mode4.ensures.bytes)

pub returns-clause-bytes : goal.returns-clause-bytes
returns-clause-bytes g c =
    all_listed c.args.meaning.now c.args.mode4 c.args.steps.now _ _ c.loop-number.number c.loop-number.mode4 c.loop-number.invariant.listed (omega (arith, c.loop-number-test.false))
