-- The number was put, and then the words.
use Rattle.std.proofs.Common.{◌∙◌}
use Rattle.nor_base.proofs.DeviceLaws.{Writes-cut}
use Rattle.nor_listing.proofs.LineLemmas.{number_cut, number_put}
use Rattle.nor_listing.proofs.line.write_line.Goals as goal

pub returns-in_err-put_parts-clause-bytes : goal.returns-in_err-put_parts-clause-bytes
returns-in_err-put_parts-clause-bytes g c =
    Writes-cut _ _ _ _ c.from_residual.ensures.0
    (number_cut c.args.meaning.now c.args.number c.args.mode4 c.args.step.now c.as_bytes.result.now (c.as_bytes.ensures.value ∙ c.format.ensures.text) _ _
    c.in_err-put_parts.ensures.bytes)

pub returns-clause-bytes : goal.returns-clause-bytes
returns-clause-bytes g c =
    number_put c.args.meaning.now c.args.number c.args.mode4 c.args.step.now c.as_bytes.result.now (c.as_bytes.ensures.value ∙ c.format.ensures.text) _ _ _ _
    c.in_ok-put_parts.ensures.bytes c.put_words.ensures.bytes
