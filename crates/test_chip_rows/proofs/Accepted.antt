-- The chip with both modes is accepted.
use Rattle.std.proofs.Common.{◌≡◌, true, ◌∷◌, [], Some, None, refl, sym, subst}
use Rattle.nor_base.specs.declared.meaning.Switch.{Switch}
use Rattle.nor_base.specs.declared.meaning.Width.TheVariants.{Both}
use Rattle.nor_base.specs.Parameters.{Parameters}
use Rattle.nor_base.specs.Accepted.{IsAccepted}
use Rattle.test_samples.specs.Chips.{small}
use Rattle.test_samples.proofs.Acceptance.{accepted}

abbrev pub two_mode : Switch → Parameters → Parameters
two_mode switch m = record m {
  width = Both;
  erases = Some (record { size = 4096; op = 0x20; op4 = Some 0x21 }) ∷ None ∷ None ∷ None ∷ [];
  enter = switch;
  leave = switch;
  quad_read = Some (record { op = 0x6B; dummies = 8 });
  read4 = true;
  quad_read4 = true;
  program4 = true;
  quad4 = true;
  quad3 = true;
}

-- the fields of the small chip with both modes are accepted
pub two_mode_built : (switch : Switch) (m : Parameters) → m ≡ small → IsAccepted (two_mode switch m)
two_mode_built switch m is = subst (λ (n : Parameters). IsAccepted (two_mode switch n)) (sym is) (accepted (two_mode switch small) refl)
