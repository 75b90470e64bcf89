use Rattle.std.proofs.Common.{◌+◌, ◌*◌, ◌^◌, ◌≤◌, arith, sym, ◌∙◌, ap}
use Rattle.std.proofs.lemmas.Grind.{common_steps}
use Rattle.std.proofs.lemmas.List.{take_all}
use Rattle.std.proofs.lemmas.List.Folds.{list_all_more}
use Rattle.std.proofs.lemmas.Int.Digits.{digits_value_more}
use Rattle.std.specs.Char.{is_digit, digit_value}
use Rattle.std.specs.List.{list_all}
use Rattle.std.specs.Str.Parse.{digits_value}
use Rattle.nor_listing.proofs.NumberLemmas.{past_at, below_64, not_below}
use Rattle.nor_listing.proofs.digits.decimal_of.Goals as goal

pub returns-in_err-checked_mul : goal.returns-in_err-checked_mul
returns-in_err-checked_mul c =
    let many : 2 ^ 64 ≤ c.loop-byte.value * 10 = not_below _ _ c.in_err-checked_mul.ensures in
    let held = ap (λ v. v * 10) c.loop-byte.invariant.value in
    c.from_residual-in_err-checked_mul.ensures
    ∙ sym (past_at c.args.digits.now c.loop-byte.byte-index c.loop-byte-test.true (omega (arith, many, held)))

pub returns-in_err-value : goal.returns-in_err-value
returns-in_err-value c =
    let many : 2 ^ 64 ≤ c.in_ok-checked_mul.field-0 + c.from-in-loop-byte.result = not_below _ _ c.in_err-value.ensures in
    let held = ap (λ v. v * 10) c.loop-byte.invariant.value in
    c.from_residual-in_err-value.ensures
    ∙ sym (past_at c.args.digits.now c.loop-byte.byte-index c.loop-byte-test.true
    (omega (arith, many, held, c.in_ok-checked_mul.ensures, c.from-in-loop-byte.ensures, c.in_ok-digit.ensures.value, ap digit_value c.from.ensures)))

pub loop-byte-preserved : goal.loop-byte-preserved
loop-byte-preserved c =
    let more = list_all_more (λ d. is_digit d 10) c.args.digits.now c.loop-byte.byte-index 0 c.loop-byte-test.true in
    let value = digits_value_more 10 c.args.digits.now c.loop-byte.byte-index c.loop-byte-test.true in
    record {
      digits = grind (arith, common_steps, more);
      value = grind (arith, common_steps, value);
      small = omega (arith, c.in_ok-value.ensures);
    }

pub returns : goal.returns
returns c =
    let whole = take_all c.loop-byte.byte-index c.args.digits.now c.loop-byte-test.false in
    below_64 c.args.digits.now c.loop-byte.value
    (ap (list_all (λ d. is_digit d 10)) (sym whole) ∙ c.loop-byte.invariant.digits)
    (c.loop-byte.invariant.value ∙ ap (digits_value 10) whole) c.loop-byte.invariant.small
