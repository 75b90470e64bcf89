-- Two lines.
use Rattle.std.proofs.Common.{◌∙◌, ◌++◌, ap, rules, subst}
use Rattle.std.specs.Prelude.{codes, decimal}
use Rattle.std.specs.Io.KnownBytes.{Appends}
use Rattle.nor_base.specs.Device.{Writes}
use Rattle.nor_base.proofs.DeviceLaws.{Writes-then}
use Rattle.norprog_device.specs.Shown.{digits_line}
use Rattle.norprog_read.specs.Line.{fault_number}
use Rattle.norprog_read.proofs.LineLemmas.{number_parts}
use Rattle.norprog_read.proofs.line.write_no_tables.Goals as goal

pub returns-clause-bytes : goal.returns-clause-bytes
returns-clause-bytes g c =
    let h = g.W.ByteOut.held c.args.writer.now in
    let i = g.W.ByteOut.held c.write_digits.new.writer in
    let j = g.W.ByteOut.held c.put_parts.new.writer in
    let id : Appends h i (digits_line (codes "id ") c.args.id.now) = search rules in
    Writes-then h i j c.put_parts.result (digits_line (codes "id ") c.args.id.now)
    (codes "no tables: " ++ (decimal (fault_number c.args.fault) ++ codes "\n")) id
    (subst (Writes i j c.put_parts.result)
    (number_parts (fault_number c.args.fault) _ (c.as_bytes-digits.ensures.value ∙ c.format.ensures.text ∙ ap decimal c.fault_number.ensures))
    c.put_parts.ensures.bytes)
