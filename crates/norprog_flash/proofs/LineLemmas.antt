-- The parts of a line, joined.
use Rattle.std.proofs.Common.{◌≡◌, refl, ℕ, List, ◌++◌}
use Rattle.std.specs.Prelude.{codes, decimal}
use Rattle.nor_base.specs.Script.{hex_pair}
use Rattle.nor_script.specs.Hexadecimal.{hex_number}
use Rattle.norprog_flash.specs.Line.{comparison_line}
use Rattle.norprog_flash.specs.declared.compared.Comparison.TheVariants.{Differs}

pub difference_parts : (at chip want bytes : ℕ) (first second third last : List ℕ) → first ≡ hex_number at → second ≡ hex_pair chip → third ≡ hex_pair want
    → last ≡ decimal bytes
    → codes "differs at " ++ (first ++ (codes " chip " ++ (second ++ (codes " want " ++ (third ++ (codes "\ndiffering " ++ (last ++ codes "\n")))))))
    ≡ comparison_line (Differs at chip want bytes)
difference_parts at chip want bytes first second third last f s t l = rw (f, s, t, l) refl
