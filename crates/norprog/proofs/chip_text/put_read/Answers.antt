-- The parts joined are the line.
use Rattle.std.proofs.Common.{◌≡◌, ◌∙◌, ℕ, List, ◌++◌, ap, subst}
use Rattle.std.specs.Prelude.{codes, decimal}
use Rattle.nor_base.specs.declared.meaning.QuadRead.{QuadRead}
use Rattle.nor_base.specs.Device.{Writes}
use Rattle.norprog.specs.ChipText.{hex_byte, read_text}
use Rattle.norprog.proofs.chip_text.put_read.Goals as goal

parts : (read : QuadRead) (two digits : List ℕ) → two ≡ hex_byte read.op → digits ≡ decimal read.dummies
    → codes "quadread " ++ (two ++ (codes " " ++ (digits ++ codes "\n"))) ≡ read_text read
parts read two digits first second =
    ap (λ (l : List ℕ). codes "quadread " ++ (l ++ (codes " " ++ (digits ++ codes "\n")))) first
    ∙ ap (λ (l : List ℕ). codes "quadread " ++ (hex_byte read.op ++ (codes " " ++ (l ++ codes "\n")))) second

pub returns-clause-bytes : goal.returns-clause-bytes
returns-clause-bytes g c =
    subst (Writes (g.W.ByteOut.held c.args.writer.now) (g.W.ByteOut.held c.put_parts.new.writer) c.put_parts.result)
    (parts c.args.read c.hex_byte.result _ c.hex_byte.ensures (c.as_bytes.ensures.value ∙ c.format.ensures.text))
    c.put_parts.ensures.bytes
