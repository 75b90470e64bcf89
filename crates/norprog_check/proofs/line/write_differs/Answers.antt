-- The parts joined are the line.
use Rattle.std.proofs.Common.{◌∙◌, subst}
use Rattle.nor_base.specs.Device.{Writes}
use Rattle.norprog_check.proofs.LineLemmas.{differs_parts}
use Rattle.norprog_check.proofs.line.write_differs.Goals as goal

pub returns-clause-bytes : goal.returns-clause-bytes
returns-clause-bytes g c =
    subst (Writes (g.W.ByteOut.held c.args.out.now) (g.W.ByteOut.held c.put_parts.new.writer) c.put_parts.result)
    (differs_parts c.args.step c.args.address _ _ (c.as_bytes.ensures.value ∙ c.format.ensures.text) c.hex_number-digits.ensures)
    c.put_parts.ensures.bytes
