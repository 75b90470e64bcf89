-- What a search finds is the first place.
use Rattle.std.proofs.Common.{◌≡◌, ℕ, ◌<◌, ◌≤◌, nat_lt, Bool, true, false, cond, List, length, Option, Some, None, inl, inr, refl, sym, ◌∙◌, ap, arith}
use Rattle.std.specs.Prelude.{position}
use Rattle.std.specs.List.{position_or_len}
use Rattle.std.proofs.lemmas.Bool.{ltb-true, lt-ltb, cases_lt}
use Rattle.std.proofs.lemmas.List.Sums.{fails_before_first, passes_at_first}
use Rattle.memchr.specs.Find.{IsFirstByte}

no_place : (p : ℕ → Bool) (xs : List ℕ) (b : Bool) → nat_lt (position_or_len p xs) (length xs) ≡ b → IsFirstByte p xs None
    → cond b (Some (position_or_len p xs)) None ≡ None
no_place p xs false is h = refl
no_place p xs true is h =
    let inside : position_or_len p xs < length xs = ltb-true _ _ is in
    absurd (h (position_or_len p xs) (omega arith) inside (passes_at_first p xs 0 inside))

-- no place before the first, and none after it
not_later : (p : ℕ → Bool) (xs : List ℕ) (k : ℕ) → IsFirstByte p xs (Some k) → position_or_len p xs ≤ k
not_later p xs k h = elim (cases_lt k (position_or_len p xs)) [
  | inl below ↦ let both : true ≡ false = sym h.1 ∙ fails_before_first p xs k 0 below in cc
  | inr past ↦ omega arith
]

not_earlier : (p : ℕ → Bool) (xs : List ℕ) (k : ℕ) → IsFirstByte p xs (Some k) → k ≤ position_or_len p xs
not_earlier p xs k h = elim (cases_lt (position_or_len p xs) k) [
  | inl below ↦ absurd (h.0.before (position_or_len p xs) (omega arith) below (passes_at_first p xs 0 (omega (arith, h.0.high))))
  | inr past ↦ omega arith
]

pub first_place : (p : ℕ → Bool) (xs : List ℕ) (r : Option ℕ) → IsFirstByte p xs r → r ≡ position p xs
first_place p xs None h = sym (no_place p xs _ refl h)
first_place p xs (Some k) h =
    let is : position_or_len p xs ≡ k = omega (arith, not_later p xs k h, not_earlier p xs k h) in
    sym (ap (λ b. cond b (Some (position_or_len p xs)) None) (lt-ltb (position_or_len p xs) (length xs) (omega (arith, is, h.0.high))) ∙ ap Some is)
