-- The parts joined are the line.
use Rattle.std.proofs.Common.{◌∙◌}
use Rattle.nor_base.proofs.DeviceLaws.{Writes-cut}
use Rattle.norprog_check.proofs.LineLemmas.{cut_head, cut_page, cut_limit, all_parts}
use Rattle.norprog_check.proofs.line.write_chip.Goals as goal

pub returns-in_err-put_parts-clause-bytes : goal.returns-in_err-put_parts-clause-bytes
returns-in_err-put_parts-clause-bytes g c =
    Writes-cut _ _ _ _ c.from_residual.ensures.0
    (cut_head c.args.chip.now _ _ (c.as_bytes.ensures.value ∙ c.format.ensures.text) c.keep_words.ensures _ _ c.in_err-put_parts.ensures.bytes)

pub returns-in_err-put_number-clause-bytes : goal.returns-in_err-put_number-clause-bytes
returns-in_err-put_number-clause-bytes g c =
    Writes-cut _ _ _ _ c.from_residual-in_err-put_number.ensures.0
    (cut_page c.args.chip.now _ _ (c.as_bytes.ensures.value ∙ c.format.ensures.text) c.keep_words.ensures _ _ _ c.widened.result c.widened.ensures
    c.in_ok-put_parts.ensures.bytes c.in_err-put_number.ensures.bytes)

pub returns-in_err-put_number-2-clause-bytes : goal.returns-in_err-put_number-2-clause-bytes
returns-in_err-put_number-2-clause-bytes g c =
    Writes-cut _ _ _ _ c.from_residual-in_err-put_number-2.ensures.0
    (cut_limit c.args.chip.now _ _ (c.as_bytes.ensures.value ∙ c.format.ensures.text) c.keep_words.ensures _ _ _ _ c.widened.result c.limit_for.result
    c.widened.ensures c.limit_for.ensures c.in_ok-put_parts.ensures.bytes c.in_ok-put_number.ensures.bytes c.in_err-put_number-2.ensures.bytes)

pub returns-clause-bytes : goal.returns-clause-bytes
returns-clause-bytes g c =
    all_parts c.args.chip.now _ _ (c.as_bytes.ensures.value ∙ c.format.ensures.text) c.keep_words.ensures _ _ _ _ _ c.put_all.result c.widened.result c.limit_for.result
    c.widened.ensures c.limit_for.ensures c.in_ok-put_parts.ensures.bytes c.in_ok-put_number.ensures.bytes c.in_ok-put_number-2.ensures.bytes c.put_all.ensures.bytes
