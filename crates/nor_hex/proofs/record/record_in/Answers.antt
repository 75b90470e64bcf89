use Rattle.std.proofs.Common.{◌%◌, ◌<◌, ◌≤◌, length, arith, rules, sym, ◌∙◌, sum}
use Rattle.std.proofs.lemmas.Bool.{ne_eqb, eq-eqb, lt-ltb, le-ltb}
use Rattle.nor_hex.specs.Record.{pair_bytes, type_field, data_field}
use Rattle.nor_hex.proofs.PairLemmas.{length-pair_bytes}
use Rattle.nor_hex.proofs.RecordLemmas.{at_no_colon, at_bad_digit, at_bad_length, at_bad_sum, at_bad_type, at_record, fits-complete, length-complete, length-data, front_data}
use Rattle.nor_hex.proofs.record.record_in.Goals as goal
use Rattle.nor_hex.proofs.record.record_in.Goals.{in_default-via-in-Some+in_default, in_default-via-in_default}

pub returns-in_default-clause-line : goal.returns-in_default-clause-line
returns-in_default-clause-line c =
    at_no_colon c.args.number c.args.line.now (elim c.in_default.branch [ in_default-via-in-Some+in_default w ↦ search rules | in_default-via-in_default w ↦ search rules ])

pub returns-then-not-are_digits-clause-line : goal.returns-then-not-are_digits-clause-line
returns-then-not-are_digits-clause-line c = at_bad_digit c.args.number c.args.line.now c.in-Some-eq58-default.digits.now (search rules) (sym c.are_digits.ensures ∙ c.if-not-are_digits.true)

pub returns-then-not-is_complete-clause-line : goal.returns-then-not-is_complete-clause-line
returns-then-not-is_complete-clause-line c = at_bad_length c.args.number c.args.line.now c.in-Some-eq58-default.digits.now (search rules) (sym c.are_digits.ensures ∙ c.if-not-are_digits.false) (sym c.is_complete.ensures.complete ∙ c.if-not-is_complete.true)

pub returns-then-decode-ne0-clause-line : goal.returns-then-decode-ne0-clause-line
returns-then-decode-ne0-clause-line c =
    at_bad_sum c.args.number c.args.line.now c.in-Some-eq58-default.digits.now (search rules) (sym c.are_digits.ensures ∙ c.if-not-are_digits.false) (sym c.is_complete.ensures.complete ∙ c.if-not-is_complete.false)
    (ne_eqb (sum (pair_bytes c.in-Some-eq58-default.digits.now) % 256) 0 (λ zero_sum. c.if-decode-ne0.true (c.decode.ensures.sum ∙ zero_sum)))

pub returns-then-kind-gt5-clause-line : goal.returns-then-kind-gt5-clause-line
returns-then-kind-gt5-clause-line c =
    at_bad_type c.args.number c.args.line.now c.in-Some-eq58-default.digits.now (search rules) (sym c.are_digits.ensures ∙ c.if-not-are_digits.false) (sym c.is_complete.ensures.complete ∙ c.if-not-is_complete.false)
    (eq-eqb (sum (pair_bytes c.in-Some-eq58-default.digits.now) % 256) 0 (sym c.decode.ensures.sum ∙ c.if-decode-ne0.false))
    (let over : 5 < type_field (pair_bytes c.in-Some-eq58-default.digits.now) = omega arith in lt-ltb 5 (type_field (pair_bytes c.in-Some-eq58-default.digits.now)) over)

pub returns-clause-line : goal.returns-clause-line
returns-clause-line c =
    rw (c.pair-kind.ensures, c.offset_in.ensures, c.data_in.ensures.bytes)
    (at_record c.args.number c.args.line.now c.in-Some-eq58-default.digits.now (search rules) (sym c.are_digits.ensures ∙ c.if-not-are_digits.false) (sym c.is_complete.ensures.complete ∙ c.if-not-is_complete.false)
    (eq-eqb (sum (pair_bytes c.in-Some-eq58-default.digits.now) % 256) 0 (sym c.decode.ensures.sum ∙ c.if-decode-ne0.false))
    (let known : type_field (pair_bytes c.in-Some-eq58-default.digits.now) ≤ 5 = omega arith in le-ltb 5 (type_field (pair_bytes c.in-Some-eq58-default.digits.now)) known))

pub invariant_of-result : goal.invariant_of-result
invariant_of-result c = record {
  all_digits = c.data_in.ensures.digits;
  halves = length-pair_bytes c.data_in.result.now;
  right_length = rw (c.pair-kind.ensures, c.data_in.ensures.bytes) (fits-complete c.in-Some-eq58-default.digits.now (sym c.is_complete.ensures.complete ∙ c.if-not-is_complete.false));
}

pub returns-clause-few : goal.returns-clause-few
returns-clause-few c =
    let full = sym c.is_complete.ensures.complete ∙ c.if-not-is_complete.false in
    let len = length-complete c.in-Some-eq58-default.digits.now full in
    let few = c.is_complete.ensures.few c.if-not-is_complete.false in
    rw c.data_in.ensures.bytes (omega (arith, length-data c.in-Some-eq58-default.digits.now len))

pub returns-clause-bytes : goal.returns-clause-bytes
returns-clause-bytes c =
    let full = sym c.is_complete.ensures.complete ∙ c.if-not-is_complete.false in
    rw c.data_in.ensures.bytes (front_data c.in-Some-eq58-default.digits.now c.decode.new.bytes (length (data_field (pair_bytes c.in-Some-eq58-default.digits.now))) full c.decode.ensures.bytes (length-data c.in-Some-eq58-default.digits.now (length-complete c.in-Some-eq58-default.digits.now full)))
