-- The parts joined are the line.
use Rattle.std.proofs.Common.{subst}
use Rattle.nor_base.specs.Device.{Writes}
use Rattle.norprog_device.proofs.LineLemmas.{other_parts}
use Rattle.norprog_device.proofs.shown.write_difference.Goals as goal

pub returns-clause-bytes : goal.returns-clause-bytes
returns-clause-bytes g c =
    subst (Writes (g.W.ByteOut.held c.args.writer.now) (g.W.ByteOut.held c.put_parts.new.writer) c.put_parts.result)
    (other_parts c.args.front.now c.args.last.now _ _ _ c.args.d c.hex_number.ensures c.hex_pair.ensures c.hex_pair-2.ensures)
    c.put_parts.ensures.bytes
