-- The uniform parameters are accepted.
use Rattle.std.proofs.Common.{◌≡◌, ℕ, zero, suc, ◌≤◌, ◌%◌, ◌^◌, Some, None, refl, subst, arith}
use Rattle.nor_base.specs.declared.meaning.Erase.{Erase}
use Rattle.nor_base.specs.Parameters.{Parameters, erase_kind}
use Rattle.nor_base.specs.Accepted.{IsAccepted, IsEraseKind}
use Rattle.nor_base.specs.Uniform.{uniform_of}

sectors : (m : Parameters) → m.page ≡ 256 → IsEraseKind m (record { size = 4096; op = 0x20; op4 = None })
sectors m page = record {
  size = record { exponent = 12; at_least = omega arith; at_most = omega arith; value = refl };
  whole_pages = omega arith;
  op = omega arith;
  op4 = tt;
}

only_sectors : (size kind : ℕ) (erase : Erase) → erase_kind (uniform_of size) kind ≡ Some erase → IsEraseKind (uniform_of size) erase
only_sectors size zero erase h = cc
only_sectors size (suc zero) erase h = let e : record { size = 4096; op = 0x20; op4 = None } ≡ erase = cc in subst (IsEraseKind (uniform_of size)) e (sectors (uniform_of size) refl)
only_sectors size (suc (suc zero)) erase h = cc
only_sectors size (suc (suc (suc zero))) erase h = cc
only_sectors size (suc (suc (suc (suc zero)))) erase h = cc
only_sectors size (suc (suc (suc (suc (suc k))))) erase h = cc

pub uniform_accepted : (size : ℕ) → 4096 ≤ size → size ≤ 2 ^ 24 → size % 4096 ≡ 0 → IsAccepted (uniform_of size)
uniform_accepted size low high whole = record {
  size_low = low;
  size_high = omega arith;
  size_whole = whole;
  page = record { exponent = 8; at_least = omega arith; at_most = omega arith; value = refl };
  four_kinds = refl;
  kinds = only_sectors size;
  some_region = omega arith;
  few_regions = omega arith;
  regions = (record { some = omega arith; whole = omega arith; mask = omega arith }, tt);
  regions_fill = omega arith;
  enter = λ h. absurd (h refl);
  leave = λ h. absurd (h refl);
  quad_read4 = λ h. cc;
  quad_read_op = tt;
  dummies = tt;
  opcodes = refl;
}
