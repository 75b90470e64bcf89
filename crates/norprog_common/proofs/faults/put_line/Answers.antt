-- The parts joined are the line.
use Rattle.std.proofs.Common.{ℕ, List, [], ◌∷◌, ◌++◌, ◌∙◌, sym, subst}
use Rattle.std.specs.Prelude.{codes, decimal}
use Rattle.nor_base.specs.Device.{Writes}
use Rattle.nor_script.specs.Hexadecimal.{hex_number}
use Rattle.norprog_common.specs.declared.faults.Behind.{Behind}
use Rattle.norprog_common.specs.Lines.{spelled, program_line}
use Rattle.norprog_common.proofs.LineLemmas.{words_then}
use Rattle.norprog_common.proofs.faults.put_line.Goals as goal

pub returns-in-Number-clause-bytes : goal.returns-in-Number-clause-bytes
returns-in-Number-clause-bytes g c =
    let words = c.args.words.now in
    subst (λ (b : Behind). Writes (g.E.ByteOut.held c.args.err.now) (g.E.ByteOut.held c.put_parts-in-Number.new.writer) c.put_parts-in-Number.result (program_line (spelled words b)))
    (sym c.in-Number.is)
    (subst (Writes (g.E.ByteOut.held c.args.err.now) (g.E.ByteOut.held c.put_parts-in-Number.new.writer) c.put_parts-in-Number.result) (words_then words (decimal c.in-Number.number))
    (subst (λ (digits : List ℕ). Writes (g.E.ByteOut.held c.args.err.now) (g.E.ByteOut.held c.put_parts-in-Number.new.writer) c.put_parts-in-Number.result
    (codes "norprog: " ++ (words ++ (digits ++ 0x0A ∷ []))))
    (c.as_bytes.ensures.value ∙ c.format.ensures.text) c.put_parts-in-Number.ensures.bytes))

pub returns-in-Address-clause-bytes : goal.returns-in-Address-clause-bytes
returns-in-Address-clause-bytes g c =
    let words = c.args.words.now in
    subst (λ (b : Behind). Writes (g.E.ByteOut.held c.args.err.now) (g.E.ByteOut.held c.put_parts-in-Address.new.writer) c.put_parts-in-Address.result (program_line (spelled words b)))
    (sym c.in-Address.is)
    (subst (Writes (g.E.ByteOut.held c.args.err.now) (g.E.ByteOut.held c.put_parts-in-Address.new.writer) c.put_parts-in-Address.result) (words_then words (hex_number c.in-Address.address))
    (subst (λ (digits : List ℕ). Writes (g.E.ByteOut.held c.args.err.now) (g.E.ByteOut.held c.put_parts-in-Address.new.writer) c.put_parts-in-Address.result
    (codes "norprog: " ++ (words ++ (digits ++ 0x0A ∷ []))))
    c.hex_number.ensures c.put_parts-in-Address.ensures.bytes))
