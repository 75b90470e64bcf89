-- The fields of a driver's line.
use Rattle.std.proofs.Common.{◌≡◌, ◌∙◌, ℕ, Bool, true, false, List, Some, ap, subst}
use Rattle.std.specs.Bool.{OnTrue}
use Rattle.norprog_common.specs.Values.{decimal_of}
use Rattle.norprog_files.specs.Terminal.{HasMinor, IsDriverOf, after_field, first_field}

pub on_true : {P Q : Type 0} (b : Bool) → (P → Q) → OnTrue b P → OnTrue b Q
on_true true f p = f p
on_true false f p = tt

pub driver : (major minor : ℕ) (line nodes numbers number more minors : List ℕ) → nodes ≡ after_field line → numbers ≡ after_field nodes → number ≡ first_field numbers
    → more ≡ after_field numbers → minors ≡ first_field more → decimal_of number ≡ Some major → HasMinor minor minors → IsDriverOf major minor line
driver major minor line nodes numbers number more minors a b c d e said has =
    let far : numbers ≡ after_field (after_field line) = b ∙ ap after_field a in
    record {
      major_number = subst (λ text. decimal_of text ≡ Some major) (c ∙ ap first_field far) said;
      minor_numbers = subst (HasMinor minor) (e ∙ ap first_field (d ∙ ap after_field far)) has;
    }
