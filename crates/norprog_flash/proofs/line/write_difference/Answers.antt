-- The parts joined are the lines.
use Rattle.std.proofs.Common.{◌∙◌, subst}
use Rattle.nor_base.specs.Device.{Writes}
use Rattle.norprog_flash.proofs.LineLemmas.{difference_parts}
use Rattle.norprog_flash.proofs.line.write_difference.Goals as goal

pub returns-clause-bytes : goal.returns-clause-bytes
returns-clause-bytes g c =
    subst (Writes (g.W.ByteOut.held c.args.writer.now) (g.W.ByteOut.held c.put_parts.new.writer) c.put_parts.result)
    (difference_parts c.args.at c.args.chip c.args.want c.args.bytes _ _ _ _ c.hex_number.ensures c.hex_pair.ensures c.hex_pair-2.ensures
    (c.as_bytes.ensures.value ∙ c.format.ensures.text))
    c.put_parts.ensures.bytes
