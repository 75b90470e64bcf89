-- The parts joined are the line.
use Rattle.std.proofs.Common.{◌∙◌, ℕ, Option, sym, subst}
use Rattle.nor_base.specs.Device.{Writes}
use Rattle.norprog_read.specs.Line.{note_line}
use Rattle.norprog_read.proofs.LineLemmas.{note_parts}
use Rattle.norprog_read.proofs.line.write_note.Goals as goal

pub returns-in-Some-clause-bytes : goal.returns-in-Some-clause-bytes
returns-in-Some-clause-bytes g c =
    let h = g.W.ByteOut.held c.args.writer.now in
    let i = g.W.ByteOut.held c.put_parts.new.writer in
    subst (λ (note : Option ℕ). Writes h i c.put_parts.result (note_line note)) (sym c.in-Some.is)
    (subst (Writes h i c.put_parts.result) (note_parts c.in-Some.size _ (c.as_bytes-digits.ensures.value ∙ c.format.ensures.text)) c.put_parts.ensures.bytes)
