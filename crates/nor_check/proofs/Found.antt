-- The first of some numbers that pass a test.
use Rattle.std.proofs.Common.{◌≡◌, ℕ, zero, suc, ◌+◌, ◌<◌, ◌≤◌, Bool, true, false, not, cond, List, length, Some, None, refl, sym, ap, arith, subst, inl, inr, eqb-true, eq-eqb}
use Rattle.std.specs.List.{slice_index, find, range_with_len}
use Rattle.std.proofs.lemmas.Bool.{cases_eq, not-false, false_from_ne_true}
use Rattle.std.proofs.lemmas.Grind.{same_number_lists}
use Rattle.nor_check.specs.Outcome.{differs, first_difference}

none_by : (p : ℕ → Bool) (b n a : ℕ) (t : Bool) → p b ≡ t → (find p (range_with_len (b + 1) n) ≡ None → b + 1 ≤ a → a < (b + 1) + n → p a ≡ false)
    → cond t (Some b) (find p (range_with_len (b + 1) n)) ≡ None → b ≤ a → a < b + suc n → p a ≡ false
none_by p b n a true is more h low high = cc
none_by p b n a false is more h low high = elim (cases_eq b a) [
  | inl same ↦ subst (λ m. p m ≡ false) same is
  | inr apart ↦ more h (omega arith) (omega arith)
]

none_found : (p : ℕ → Bool) (b n a : ℕ) → find p (range_with_len b n) ≡ None → b ≤ a → a < b + n → p a ≡ false
none_found p b zero a h low high = absurd (omega arith)
none_found p b (suc n) a h low high = none_by p b n a (p b) refl (none_found p (b + 1) n a) h low high

find_none : (p : ℕ → Bool) (b n : ℕ) → ((a : ℕ) → b ≤ a → a < b + n → p a ≡ false) → find p (range_with_len b n) ≡ None
find_none p b zero none = refl
find_none p b (suc n) none =
    let here : p b ≡ false = none b (omega arith) (omega arith) in
    rw here (find_none p (b + 1) n (λ a low high. none a (omega arith) (omega arith)))

find_some : (p : ℕ → Bool) (b n a : ℕ) → b ≤ a → a < b + n → p a ≡ true → ((j : ℕ) → b ≤ j → j < a → p j ≡ false) → find p (range_with_len b n) ≡ Some a
find_some p b zero a low high is none = absurd (omega arith)
find_some p b (suc n) a low high is none = elim (cases_eq b a) [
  | inl same ↦ let here : p b ≡ true = subst (λ m. p m ≡ true) (sym same) is in rw here (ap (λ m. Some m) same)
  | inr apart ↦
      let here : p b ≡ false = none b (omega arith) (omega arith) in
      rw here (find_some p (b + 1) n a (omega arith) (omega arith) is (λ j from upto. none j (omega arith) upto))
]

no_difference : (array target : List ℕ) (a : ℕ) → slice_index array a ≡ slice_index target a → differs array target a ≡ false
no_difference array target a same = ap not (eq-eqb (slice_index array a) (slice_index target a) same)

-- two arrays of one size without a difference are one
pub same_arrays : (array target : List ℕ) → length array ≡ length target → first_difference array target ≡ None → array ≡ target
unfolding first_difference
same_arrays array target sizes h =
    same_number_lists array target sizes (λ a fits.
    eqb-true (slice_index array a) (slice_index target a)
    (not-false _ (none_found (differs array target) 0 (length target) a h (omega arith) (omega (arith, sizes, fits)))))

pub none_differs : (array target : List ℕ) → ((a : ℕ) → a < length target → slice_index array a ≡ slice_index target a) → first_difference array target ≡ None
unfolding first_difference
none_differs array target same = find_none (differs array target) 0 (length target) (λ a low high. no_difference array target a (same a (omega arith)))

pub first_differs : (array target : List ℕ) (a : ℕ) → a < length target → (slice_index array a ≡ slice_index target a → ⊥)
    → ((j : ℕ) → j < a → slice_index array j ≡ slice_index target j) → first_difference array target ≡ Some a
unfolding first_difference
first_differs array target a fits apart same =
    find_some (differs array target) 0 (length target) a (omega arith) (omega arith)
    (ap not (false_from_ne_true _ (λ is. apart (eqb-true (slice_index array a) (slice_index target a) is))))
    (λ j low upto. no_difference array target j (same j upto))
