-- What std's parser of decimal digits answers for a text without a plus.
use Rattle.std.proofs.Common.{sym, ◌∙◌}
use Rattle.norprog_common.proofs.NumberLemmas.{limit_read, limit_zero, limit_refused}
use Rattle.norprog_common.proofs.values.limit.Goals as goal

pub returns-in-Err : goal.returns-in-Err
returns-in-Err c = limit_refused c.args.text.now c.in-Err.field-0 (sym c.has_plus.ensures ∙ c.if-has_plus.false) c.in-Err.ensures.value.0

pub returns-then-value-eq0 : goal.returns-then-value-eq0
returns-then-value-eq0 c = limit_zero c.args.text.now c.in-Ok.value (sym c.has_plus.ensures ∙ c.if-has_plus.false) c.if-value-eq0.true c.in-Ok.ensures.value.0

pub returns : goal.returns
returns c = limit_read c.args.text.now c.in-Ok.value (sym c.has_plus.ensures ∙ c.if-has_plus.false) c.if-value-eq0.false c.in-Ok.ensures.value.0
