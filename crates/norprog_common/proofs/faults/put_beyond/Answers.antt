-- The parts joined are the line.
use Rattle.std.proofs.Common.{◌∙◌, ◌∷◌, ◌++◌, [], append_assoc}
use Rattle.std.specs.Prelude.{codes, decimal}
use Rattle.nor_script.specs.Hexadecimal.{hex_number}
use Rattle.norprog_common.proofs.faults.put_beyond.Goals as goal

pub returns-clause-bytes : goal.returns-clause-bytes
returns-clause-bytes g c =
    rw (
      append_assoc (decimal c.args.stray.now.count) (codes " bytes, first " ++ hex_number c.args.stray.now.first) (0x0A ∷ []),
      ← c.as_bytes.ensures.value ∙ c.format.ensures.text,
      ← c.hex_number.ensures,
    ) c.put_parts.ensures.bytes
