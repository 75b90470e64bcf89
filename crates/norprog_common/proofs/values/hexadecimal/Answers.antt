-- What std's parser of hexadecimal digits answers for a short text without a plus.
use Rattle.std.proofs.Common.{sym, ◌∙◌}
use Rattle.norprog_common.proofs.NumberLemmas.{hexadecimal_read, hexadecimal_refused}
use Rattle.norprog_common.proofs.values.hexadecimal.Goals as goal

pub returns-in-Ok : goal.returns-in-Ok
returns-in-Ok c = hexadecimal_read c.args.text.now c.in-Ok.value (sym c.has_plus.ensures ∙ c.if-has_plus.false) c.in-Ok.ensures.value

pub returns-in-Err : goal.returns-in-Err
returns-in-Err c = hexadecimal_refused c.args.text.now c.in-Err.field-0 (sym c.has_plus.ensures ∙ c.if-has_plus.false) c.requires c.in-Err.ensures.value
