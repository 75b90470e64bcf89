-- A meaning with the page that was said is accepted.
use Rattle.std.proofs.Common.{◌≡◌, sym, subst, refl, ℕ, zero, suc, ◌≤◌, ◌^◌, ◌==◌, ◌||◌, not, nat_le, nat_lt, Bool, true, false, List, [], ◌∷◌, Option, Some, None, slice_get, arith, inl, inr, eqb-true}
use Rattle.std.specs.List.{list_any}
use Rattle.std.specs.Prelude.{option_and_then}
use Rattle.std.proofs.lemmas.Bool.{and_parts, ltb-false, or_cases}
use Rattle.nor_base.specs.declared.meaning.Erase.{Erase}
use Rattle.nor_base.specs.Accepted.{IsAccepted, IsPowerOfTwo}
use Rattle.nor_base.specs.Chip.{may_page, page_sizes}
use Rattle.nor_base.specs.Parameters.{Parameters, erase_kind}
use Rattle.nor_sheet.specs.Meaning.{is_below}
use Rattle.nor_job.specs.Chip.{fits}

size_step : (page exponent : ℕ) (rest : Bool) → 4 ≤ exponent → exponent ≤ 12 → (page == 2 ^ exponent) || rest ≡ true → (rest ≡ true → IsPowerOfTwo 4 12 page)
    → IsPowerOfTwo 4 12 page
size_step page exponent rest low high h other = elim (or_cases (page == 2 ^ exponent) rest h) [
  | inl same ↦ record { exponent = exponent; at_least = low; at_most = high; value = eqb-true page (2 ^ exponent) same }
  | inr more ↦ other more
]

-- each size that a page may have is a power of two from 16 to 4096
page_size_is_power : (page : ℕ) → list_any (λ size. page == size) page_sizes ≡ true → IsPowerOfTwo 4 12 page
page_size_is_power page h =
    size_step page 4 _ (omega arith) (omega arith) h (λ h5.
    size_step page 5 _ (omega arith) (omega arith) h5 (λ h6.
    size_step page 6 _ (omega arith) (omega arith) h6 (λ h7.
    size_step page 7 _ (omega arith) (omega arith) h7 (λ h8.
    size_step page 8 _ (omega arith) (omega arith) h8 (λ h9.
    size_step page 9 _ (omega arith) (omega arith) h9 (λ h10.
    size_step page 10 _ (omega arith) (omega arith) h10 (λ h11.
    size_step page 11 _ (omega arith) (omega arith) h11 (λ h12.
    size_step page 12 _ (omega arith) (omega arith) h12 (λ none. cc)))))))))

page_is_power : (m : Parameters) (page : ℕ) → IsAccepted m → may_page m page ≡ true → IsPowerOfTwo 4 12 page
page_is_power m page accepted may = elim (or_cases (page == m.page) _ may) [
  | inl own ↦ subst (IsPowerOfTwo 4 12) (sym (eqb-true page m.page own)) accepted.page
  | inr larger ↦ page_size_is_power page (and_parts (nat_le m.page page) _ (and_parts m.open_page _ larger).1).1
]

first_false : (a b : Bool) → (a || b) ≡ false → (a ≡ false) × (b ≡ false)
first_false true b h = cc
first_false false b h = (refl, h)

is_false : (b : Bool) → not b ≡ true → b ≡ false
is_false true h = cc
is_false false h = refl

-- no kind that is there has fewer bytes than the page
whole_pages : (page : ℕ) (kinds : List (Option Erase)) (k : ℕ) (erase : Erase) → list_any (is_below page) kinds ≡ false
    → option_and_then (λ kind. kind) (slice_get kinds k) ≡ Some erase → page ≤ erase.size
whole_pages page [] k erase none here = cc
whole_pages page (None ∷ kinds) zero erase none here = cc
whole_pages page (Some first ∷ kinds) zero erase none here =
    let same : first ≡ erase = cc in
    subst (λ (e : Erase). page ≤ e.size) same (ltb-false first.size page (first_false (nat_lt first.size page) _ none).0)
whole_pages page (kind ∷ kinds) (suc k) erase none here = whole_pages page kinds k erase (first_false (is_below page kind) _ none).1 here

whole_kind : (m : Parameters) (page kind : ℕ) (erase : Erase) → list_any (is_below page) m.erases ≡ false → erase_kind m kind ≡ Some erase → page ≤ erase.size
whole_kind m page zero erase none here = cc
whole_kind m page (suc k) erase none here = whole_pages page m.erases k erase none here

pub paged_accepted : (m : Parameters) (page : ℕ) → IsAccepted m → fits m page ≡ true → IsAccepted (record m { page = page; open_page = false })
paged_accepted m page is may =
    let parts = and_parts (may_page m page) (not (list_any (is_below page) m.erases)) may in
    let none = is_false _ parts.1 in
    record {
      size_low = is.size_low;
      size_high = is.size_high;
      size_whole = is.size_whole;
      page = page_is_power m page is parts.0;
      four_kinds = is.four_kinds;
      kinds = λ kind erase here.
          let e = is.kinds kind erase here in record { size = e.size; whole_pages = whole_kind m page kind erase none here; op = e.op; op4 = e.op4 };
      some_region = is.some_region;
      few_regions = is.few_regions;
      regions = is.regions;
      regions_fill = is.regions_fill;
      enter = is.enter;
      leave = is.leave;
      quad_read4 = is.quad_read4;
      quad_read_op = is.quad_read_op;
      dummies = is.dummies;
      opcodes = is.opcodes;
    }
