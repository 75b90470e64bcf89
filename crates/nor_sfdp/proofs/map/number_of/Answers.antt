-- One bit more.
use Rattle.std.proofs.Common.{arith}
use Rattle.std.proofs.lemmas.Grind.{common_steps}
use Rattle.std.proofs.lemmas.List.Folds.{list_all_more}
use Rattle.std.proofs.lemmas.Int.Digits.{digits_value_more}
use Rattle.std.specs.Char.{is_digit}
use Rattle.nor_sfdp.proofs.IdLemmas.{value_fits}
use Rattle.nor_sfdp.proofs.map.number_of.Goals as goal

pub overflow_mul-number : goal.overflow_mul-number
overflow_mul-number c = omega (arith, value_fits c.args.digits.now c.loop-digit.digit-index (omega arith) c.loop-digit.invariant.digits)

pub overflow_add-number : goal.overflow_add-number
overflow_add-number c = omega (arith, c.in-Some.ensures.value, value_fits c.args.digits.now c.loop-digit.digit-index (omega arith) c.loop-digit.invariant.digits)

pub loop-digit-preserved : goal.loop-digit-preserved
loop-digit-preserved c =
    let more = list_all_more (λ c. is_digit c 2) c.args.digits.now c.loop-digit.digit-index 0 c.loop-digit-test.true in
    let value = digits_value_more 2 c.args.digits.now c.loop-digit.digit-index c.loop-digit-test.true in
    record {
      digits = grind (arith, common_steps, more);
      value = grind (arith, common_steps, value);
    }
