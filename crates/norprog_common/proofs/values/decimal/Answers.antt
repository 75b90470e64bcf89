-- What std's parser of decimal digits answers for a text without a plus.
use Rattle.std.proofs.Common.{sym, ◌∙◌}
use Rattle.norprog_common.proofs.NumberLemmas.{decimal_read, decimal_refused}
use Rattle.norprog_common.proofs.values.decimal.Goals as goal

pub returns-in-Ok : goal.returns-in-Ok
returns-in-Ok c = decimal_read c.args.text.now c.in-Ok.value (sym c.has_plus.ensures ∙ c.if-has_plus.false) c.in-Ok.ensures.value.0

pub returns-in-Err : goal.returns-in-Err
returns-in-Err c = decimal_refused c.args.text.now c.in-Err.field-0 (sym c.has_plus.ensures ∙ c.if-has_plus.false) c.in-Err.ensures.value.0
