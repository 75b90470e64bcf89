-- The parts joined are the lines.
use Rattle.std.proofs.Common.{◌∙◌, subst}
use Rattle.nor_base.specs.Device.{Writes}
use Rattle.norprog.proofs.ReportLemmas.{parts_told}
use Rattle.norprog.proofs.report.write_report.Goals as goal

pub returns-clause-bytes : goal.returns-clause-bytes
returns-clause-bytes g c =
    subst (Writes (g.W.ByteOut.held c.args.writer.now) (g.W.ByteOut.held c.put_parts.new.writer) c.put_parts.result)
    (parts_told c.args.report.now _ _ _ _ _ _ c.strategy_line.ensures
    (c.as_bytes.ensures.value ∙ c.format.ensures.text) (c.as_bytes-2.ensures.value ∙ c.format-2.ensures.text)
    (c.as_bytes-3.ensures.value ∙ c.format-3.ensures.text) (c.as_bytes-4.ensures.value ∙ c.format-4.ensures.text)
    (c.as_bytes-5.ensures.value ∙ c.format-5.ensures.text))
    c.put_parts.ensures.bytes
