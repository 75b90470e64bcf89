-- The parts joined are the line.
use Rattle.std.proofs.Common.{◌∙◌, subst}
use Rattle.nor_base.specs.Device.{Writes}
use Rattle.norprog_device.proofs.LineLemmas.{differs_parts}
use Rattle.norprog_device.proofs.failure_line.write_other.Goals as goal

pub returns-clause-bytes : goal.returns-clause-bytes
returns-clause-bytes g c =
    subst (Writes (g.W.ByteOut.held c.args.writer.now) (g.W.ByteOut.held c.put_parts.new.writer) c.put_parts.result)
    (differs_parts c.args.step _ _ _ _ c.args.d (c.as_bytes.ensures.value ∙ c.format.ensures.text) c.hex_number.ensures c.hex_pair.ensures c.hex_pair-2.ensures)
    c.put_parts.ensures.bytes
