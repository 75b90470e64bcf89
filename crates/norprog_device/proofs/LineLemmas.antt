-- The parts of a line, joined.
use Rattle.std.proofs.Common.{◌≡◌, refl, ℕ, List, ◌++◌}
use Rattle.std.specs.Prelude.{codes, decimal}
use Rattle.nor_base.specs.Script.{hex_pair}
use Rattle.nor_reader.specs.declared.difference.Difference.{Difference}
use Rattle.nor_script.specs.Hexadecimal.{hex_number}
use Rattle.norprog_device.specs.declared.failure.Failure.TheVariants as failure
use Rattle.norprog_device.specs.FailureLine.{failure_line}
use Rattle.norprog_device.specs.Shown.{other_line}

pub differs_parts : (step : ℕ) (digits address chip want : List ℕ) (d : Difference) → digits ≡ decimal step → address ≡ hex_number d.address → chip ≡ hex_pair d.chip
    → want ≡ hex_pair d.want
    → codes "failed at " ++ (digits ++ (codes " differs at " ++ (address ++ (codes " chip " ++ (chip ++ (codes " want " ++ (want ++ codes "\n")))))))
    ≡ failure_line step (failure.Differs d)
differs_parts step digits address chip want d k a c w = rw (k, a, c, w) refl

pub gives_parts : (step chip want : ℕ) (digits first second : List ℕ) → digits ≡ decimal step → first ≡ hex_pair chip → second ≡ hex_pair want
    → codes "failed at " ++ (digits ++ (codes " differs chip " ++ (first ++ (codes " want " ++ (second ++ codes "\n"))))) ≡ failure_line step (failure.Gives chip want)
gives_parts step chip want digits first second k c w = rw (k, c, w) refl

pub other_parts : (front last address chip want : List ℕ) (d : Difference) → address ≡ hex_number d.address → chip ≡ hex_pair d.chip → want ≡ hex_pair d.want
    → front ++ (address ++ (codes " chip " ++ (chip ++ (last ++ (want ++ codes "\n"))))) ≡ other_line front last d
other_parts front last address chip want d a c w = rw (a, c, w) refl
