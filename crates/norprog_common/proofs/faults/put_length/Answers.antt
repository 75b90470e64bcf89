-- The parts joined are the line.
use Rattle.std.proofs.Common.{◌∙◌, ◌∷◌, ◌++◌, [], append_assoc}
use Rattle.std.specs.Prelude.{codes, decimal}
use Rattle.norprog_common.proofs.faults.put_length.Goals as goal

pub returns-clause-bytes : goal.returns-clause-bytes
returns-clause-bytes g c =
    rw (
      append_assoc (decimal c.args.length.now.given) (codes " bytes, " ++ (decimal c.args.length.now.wanted ++ codes " wanted")) (0x0A ∷ []),
      append_assoc (decimal c.args.length.now.wanted) (codes " wanted") (0x0A ∷ []),
      ← c.as_bytes.ensures.value ∙ c.format.ensures.text,
      ← c.as_bytes-2.ensures.value ∙ c.format-2.ensures.text,
    ) c.put_parts.ensures.bytes
