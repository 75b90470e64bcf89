-- Erase kinds, and what a region allows.
use Rattle.std.proofs.Common.{◌≡◌, inl, inr, ℕ, zero, suc, ◌+◌, ◌<◌, ◌≤◌, ◌/◌, ◌%◌, ◌^◌, ◌==◌, false, List, length, get_or, Option, Some, None, refl, sym, subst, arith}
use Rattle.std.specs.Prelude.{◌⊎◌, slice_get, IfSome}
use Rattle.std.proofs.Math.Nat.{pow-le-pow_right, div-eq_of_lt}
use Rattle.std.proofs.lemmas.Nat.{pow_pos}
use Rattle.std.proofs.lemmas.Option.{slice_get-get_or}
use Rattle.nor_base.specs.declared.meaning.Erase.{Erase}
use Rattle.nor_base.specs.declared.meaning.Region.{Region}
use Rattle.nor_base.specs.Parameters.{Parameters, erase_kind, allows, erased_only_set}
use Rattle.nor_base.specs.Accepted.{IsAccepted}

-- the kind of a slot that was read
pub kind_of_slot : (m : Parameters) (erases : List (Option Erase)) (kind slot : ℕ) → erases ≡ m.erases → slot + 1 ≡ kind → slot < length erases
    → get_or erases slot None ≡ erase_kind m kind
kind_of_slot m erases zero slot whose is inside = absurd (omega arith)
kind_of_slot m erases (suc k) slot whose is inside =
    let same : k ≡ slot = omega arith in
    let there : slice_get erases slot ≡ Some (get_or erases slot None) = slice_get-get_or erases slot None inside in
    rw (same, ← whose, there) refl

-- no block is empty
some_bytes : (m : Parameters) (kind : ℕ) (erase : Erase) → IsAccepted m → erase_kind m kind ≡ Some erase → 0 < erase.size
some_bytes m kind erase accepted is =
    let power = (accepted.kinds kind erase is).size in
    subst (λ n. 0 < n) (sym power.value) (pow_pos power.exponent)

pub some_bytes_of : (m : Parameters) (kind : ℕ) (found : Option Erase) → IsAccepted m → found ≡ erase_kind m kind → IfSome found (λ erase. 0 < erase.size)
some_bytes_of m kind None accepted is = tt
some_bytes_of m kind (Some erase) accepted is = some_bytes m kind erase accepted (sym is)

-- a mask of a byte has no bit past the eighth
far_kind : (kinds k : ℕ) → kinds < 256 → 8 ≤ k → (kinds / 2 ^ k) % 2 == 1 ≡ false
far_kind kinds k small far =
    let wide : 2 ^ 8 ≤ 2 ^ k = pow-le-pow_right (omega arith) far in
    let below : kinds < 2 ^ k = omega arith in
    rw (div-eq_of_lt below) refl

pub no_kind : (region : Region) (kind : ℕ) → region.kinds < 256 → (kind ≡ 0) ⊎ (8 < kind) → false ≡ allows region kind
no_kind region zero small none = refl
no_kind region (suc k) small none = sym (far_kind region.kinds k small (elim none [ inl h ↦ absurd (omega arith) | inr h ↦ omega arith ]))

-- no limit speaks of the profile
pub erased_only_accepted : (m : Parameters) → IsAccepted m → IsAccepted (erased_only_set m)
erased_only_accepted m is = record {
  size_low = is.size_low;
  size_high = is.size_high;
  size_whole = is.size_whole;
  page = is.page;
  four_kinds = is.four_kinds;
  kinds = λ kind erase here.
      let e = is.kinds kind erase here in record { size = e.size; whole_pages = e.whole_pages; op = e.op; op4 = e.op4 };
  some_region = is.some_region;
  few_regions = is.few_regions;
  regions = is.regions;
  regions_fill = is.regions_fill;
  enter = is.enter;
  leave = is.leave;
  quad_read4 = is.quad_read4;
  quad_read_op = is.quad_read_op;
  dummies = is.dummies;
  opcodes = is.opcodes;
}
