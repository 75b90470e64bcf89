-- The parts joined are the line.
use Rattle.std.proofs.Common.{◌∙◌, ◌∷◌, ◌++◌, [], append_assoc}
use Rattle.std.specs.Prelude.{codes, decimal}
use Rattle.nor_script.specs.Hexadecimal.{hex_number}
use Rattle.norprog_common.proofs.faults.put_partial.Goals as goal

pub returns-clause-bytes : goal.returns-clause-bytes
returns-clause-bytes g c =
    let gap = c.args.gap.now in
    rw (
      append_assoc (decimal gap.index) (codes ": " ++ (decimal gap.given ++ (codes " of " ++ (decimal gap.size ++ (codes " bytes, first missing " ++ hex_number gap.first))))) (0x0A ∷ []),
      append_assoc (decimal gap.given) (codes " of " ++ (decimal gap.size ++ (codes " bytes, first missing " ++ hex_number gap.first))) (0x0A ∷ []),
      append_assoc (decimal gap.size) (codes " bytes, first missing " ++ hex_number gap.first) (0x0A ∷ []),
      ← c.as_bytes.ensures.value ∙ c.format.ensures.text,
      ← c.as_bytes-2.ensures.value ∙ c.format-2.ensures.text,
      ← c.as_bytes-3.ensures.value ∙ c.format-3.ensures.text,
      ← c.hex_number.ensures,
    ) c.put_parts.ensures.bytes
