-- The parts joined are the line.
use Rattle.std.proofs.Common.{◌∙◌, subst}
use Rattle.nor_base.specs.Device.{Writes}
use Rattle.norprog_device.proofs.LineLemmas.{gives_parts}
use Rattle.norprog_device.proofs.failure_line.write_gives.Goals as goal

pub returns-clause-bytes : goal.returns-clause-bytes
returns-clause-bytes g c =
    subst (Writes (g.W.ByteOut.held c.args.writer.now) (g.W.ByteOut.held c.put_parts.new.writer) c.put_parts.result)
    (gives_parts c.args.step c.args.chip c.args.want _ _ _ (c.as_bytes.ensures.value ∙ c.format.ensures.text) c.hex_pair.ensures c.hex_pair-2.ensures)
    c.put_parts.ensures.bytes
