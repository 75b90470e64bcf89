-- The chip at the upper limits is accepted.
use Rattle.std.proofs.Common.{◌≡◌, ℕ, zero, suc, Some, refl, subst, arith}
use Rattle.std.specs.Prelude.{replicate}
use Rattle.std.specs.List.{AllByRecursion}
use Rattle.nor_base.specs.declared.meaning.Erase.{Erase}
use Rattle.nor_base.specs.declared.meaning.Region.{Region}
use Rattle.nor_base.specs.Parameters.{erase_kind}
use Rattle.nor_base.specs.Accepted.{IsAccepted, IsRegion, IsEraseKind}
use Rattle.nor_laws.specs.Worked.{widest}

kinds_of_widest : (kind : ℕ) (erase : Erase) → erase_kind widest kind ≡ Some erase → IsEraseKind widest erase
kinds_of_widest zero erase h = cc
kinds_of_widest (suc zero) erase h = cc
kinds_of_widest (suc (suc zero)) erase h = let e : record { size = 16777216; op = 0xD8; op4 = Some 0xDC } ≡ erase = cc in subst (IsEraseKind widest) e (record { size = record { exponent = 24; at_least = omega arith; at_most = omega arith; value = refl }; whole_pages = omega arith; op = omega arith; op4 = omega arith })
kinds_of_widest (suc (suc (suc zero))) erase h = cc
kinds_of_widest (suc (suc (suc (suc zero)))) erase h = let e : record { size = 4096; op = 0; op4 = Some 0xFF } ≡ erase = cc in subst (IsEraseKind widest) e (record { size = record { exponent = 12; at_least = omega arith; at_most = omega arith; value = refl }; whole_pages = omega arith; op = omega arith; op4 = omega arith })
kinds_of_widest (suc (suc (suc (suc (suc k))))) erase h = cc

all_alike : (region : Region) → IsRegion region → (n : ℕ) → AllByRecursion IsRegion (replicate n region)
all_alike region is zero = tt
all_alike region is (suc n) = (is, all_alike region is n)

pub widest_is_accepted : IsAccepted widest
widest_is_accepted = record {
  size_low = omega arith;
  size_high = omega arith;
  size_whole = refl;
  page = record { exponent = 12; at_least = omega arith; at_most = omega arith; value = refl };
  four_kinds = refl;
  kinds = kinds_of_widest;
  some_region = omega arith;
  few_regions = omega arith;
  regions = all_alike _ (record { some = omega arith; whole = refl; mask = omega arith }) 256;
  regions_fill = refl;
  enter = λ h. absurd (h refl);
  leave = λ h. absurd (h refl);
  quad_read4 = λ h. refl;
  quad_read_op = omega arith;
  dummies = omega arith;
  opcodes = refl;
}
