-- The parts joined are the line.
use Rattle.std.proofs.Common.{◌≡◌, List, ℕ, ◌++◌, ◌∙◌, ap, subst}
use Rattle.std.specs.Prelude.{codes, decimal}
use Rattle.nor_base.specs.Device.{Writes}
use Rattle.nor_times.specs.declared.busy.Busy.{Busy}
use Rattle.nor_times.specs.Text.{known_line, milliseconds}
use Rattle.nor_times.proofs.writer.put_known.Goals as goal

told : (b : Busy) (typical worst : List ℕ) → typical ≡ decimal (milliseconds b.typical) → worst ≡ decimal (milliseconds b.worst)
    → codes "busy " ++ (typical ++ (codes " ms typical " ++ (worst ++ codes " ms worst\n"))) ≡ known_line b
told b typical worst first second =
    ap (λ x. codes "busy " ++ (x ++ (codes " ms typical " ++ (worst ++ codes " ms worst\n")))) first
    ∙ ap (λ x. codes "busy " ++ (decimal (milliseconds b.typical) ++ (codes " ms typical " ++ (x ++ codes " ms worst\n")))) second

pub returns-clause-bytes : goal.returns-clause-bytes
returns-clause-bytes g c =
    subst (Writes (g.W.ByteOut.held c.args.out.now) (g.W.ByteOut.held c.put_parts.new.writer) c.put_parts.result)
    (told c.args.busy _ _ (c.as_bytes.ensures.value ∙ c.format.ensures.text ∙ ap decimal c.milliseconds.ensures)
    (c.as_bytes-2.ensures.value ∙ c.format-2.ensures.text ∙ ap decimal c.milliseconds-2.ensures))
    c.put_parts.ensures.bytes
