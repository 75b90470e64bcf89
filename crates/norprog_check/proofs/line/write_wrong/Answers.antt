-- The parts joined are the line.
use Rattle.std.proofs.Common.{◌∙◌, ap, subst}
use Rattle.std.specs.Prelude.{decimal}
use Rattle.nor_base.specs.Device.{Writes}
use Rattle.norprog_check.proofs.LineLemmas.{wrong_parts}
use Rattle.norprog_check.proofs.line.write_wrong.Goals as goal

pub returns-clause-bytes : goal.returns-clause-bytes
returns-clause-bytes g c =
    subst (Writes (g.W.ByteOut.held c.args.out.now) (g.W.ByteOut.held c.put_parts.new.writer) c.put_parts.result)
    (wrong_parts c.args.step c.args.wrong _ _ (c.as_bytes.ensures.value ∙ c.format.ensures.text)
    (c.as_bytes-2.ensures.value ∙ c.format-2.ensures.text ∙ ap decimal c.wrong_number.ensures))
    c.put_parts.ensures.bytes
