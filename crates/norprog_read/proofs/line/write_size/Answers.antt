-- The parts joined are the line.
use Rattle.std.proofs.Common.{◌∙◌, subst}
use Rattle.nor_base.specs.Device.{Writes}
use Rattle.norprog_read.proofs.LineLemmas.{size_parts}
use Rattle.norprog_read.proofs.line.write_size.Goals as goal

pub returns-clause-bytes : goal.returns-clause-bytes
returns-clause-bytes g c =
    subst (Writes (g.W.ByteOut.held c.args.writer.now) (g.W.ByteOut.held c.put_parts.new.writer) c.put_parts.result)
    (size_parts c.args.size _ (c.as_bytes-digits.ensures.value ∙ c.format.ensures.text)) c.put_parts.ensures.bytes
