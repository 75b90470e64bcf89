use Rattle.std.proofs.Common.{arith}
use Rattle.std.proofs.lemmas.Grind.{common_steps}
use Rattle.std.proofs.lemmas.List.Folds.{list_all_more}
use Rattle.std.proofs.lemmas.Int.Digits.{digits_value_more}
use Rattle.std.specs.Char.{is_digit}
use Rattle.nor_sheet.proofs.Digits.{digits_fit}
use Rattle.nor_sheet.proofs.number.value_of.Goals as goal

pub overflow_mul-value : goal.overflow_mul-value
overflow_mul-value c = omega (arith, digits_fit c.args.digits.now c.loop-byte.byte-index (omega arith) c.loop-byte.invariant.digits)

pub overflow_add-value : goal.overflow_add-value
overflow_add-value c = omega (arith, c.in-Some.ensures.value, digits_fit c.args.digits.now c.loop-byte.byte-index (omega arith) c.loop-byte.invariant.digits)

pub loop-byte-preserved : goal.loop-byte-preserved
loop-byte-preserved c =
    let more = list_all_more (λ c. is_digit c 10) c.args.digits.now c.loop-byte.byte-index 0 c.loop-byte-test.true in
    let value = digits_value_more 10 c.args.digits.now c.loop-byte.byte-index c.loop-byte-test.true in
    record {
      digits = grind (arith, common_steps, more);
      value = grind (arith, common_steps, value);
    }
