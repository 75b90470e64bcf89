-- How many blanks there are, by the first of them.
use Rattle.std.proofs.Common.{◌≡◌, ℕ, suc, ◌+◌, ◌<◌, ◌≤◌, nat_lt, ◌==◌, Bool, true, false, not, cond, List, [], ◌∷◌, length, drop, Some, None, refl, sym, ◌∙◌, ap, arith, inl, inr}
use Rattle.std.specs.Prelude.{count_by, position}
use Rattle.std.specs.List.{position_or_len}
use Rattle.std.proofs.lemmas.Bool.{ltb-true, lt-ltb, cases_lt}
use Rattle.std.proofs.lemmas.List.Sums.{sum_by-cons}

counted_cons : (p : ℕ → Bool) (x : ℕ) (xs : List ℕ) → count_by p (x ∷ xs) ≡ cond (p x) 1 0 + count_by p xs
counted_cons p x xs = sum_by-cons (λ y. cond (p y) 1 0) x xs

none_passes : (p : ℕ → Bool) (xs : List ℕ) → length xs ≤ position_or_len p xs → count_by p xs ≡ 0
none_passes p [] past = refl
none_passes p (x ∷ xs) past = counted_cons p x xs ∙ by (p x) past (none_passes p xs)
  where
    by : {n at many : ℕ} (b : Bool) → suc many ≤ cond (not b) (1 + at) 0 → (many ≤ at → n ≡ 0) → cond b 1 0 + n ≡ 0
    by true past later = absurd (omega arith)
    by false past later = let none = later (omega arith) in omega arith

one_passes : (p : ℕ → Bool) (xs : List ℕ) → position_or_len p xs < length xs → count_by p xs ≡ 1 + count_by p (drop (position_or_len p xs + 1) xs)
one_passes p [] inside = absurd (omega arith)
one_passes p (x ∷ xs) inside = counted_cons p x xs ∙ by (p x) inside (one_passes p xs)
  where
    by : (b : Bool) → cond (not b) (1 + position_or_len p xs) 0 < suc (length xs)
        → (position_or_len p xs < length xs → count_by p xs ≡ 1 + count_by p (drop (position_or_len p xs + 1) xs))
        → cond b 1 0 + count_by p xs ≡ 1 + count_by p (drop (cond (not b) (1 + position_or_len p xs) 0 + 1) (x ∷ xs))
    by true inside later = refl
    by false inside later =
        let next : 1 + position_or_len p xs + 1 ≡ suc (position_or_len p xs + 1) = omega arith in
        let rest = later (omega arith) in
        rw next (omega arith)

none_there : (at many : ℕ) (b : Bool) → nat_lt at many ≡ b → cond b (Some at) None ≡ None → many ≤ at
none_there at many true is h = cc
none_there at many false is h = elim (cases_lt at many) [
  | inl inside ↦ let both : true ≡ false = sym (lt-ltb at many inside) ∙ is in cc
  | inr past ↦ past
]

is_there : (at many i : ℕ) (b : Bool) → nat_lt at many ≡ b → cond b (Some at) None ≡ Some i → (at ≡ i) × (at < many)
is_there at many i false is h = cc
is_there at many i true is h = (cc, ltb-true at many is)

none_counted : (p : ℕ → Bool) (xs : List ℕ) → position p xs ≡ None → count_by p xs ≡ 0
none_counted p xs h = none_passes p xs (none_there (position_or_len p xs) (length xs) _ refl h)

first_counted : (p : ℕ → Bool) (xs : List ℕ) (i : ℕ) → position p xs ≡ Some i → count_by p xs ≡ 1 + count_by p (drop (i + 1) xs)
first_counted p xs i h =
    let found = is_there (position_or_len p xs) (length xs) i _ refl h in
    one_passes p xs found.1 ∙ ap (λ n. 1 + count_by p (drop (n + 1) xs)) found.0

pub none_stands : (p : ℕ → Bool) (xs : List ℕ) → position p xs ≡ None → (count_by p xs == 1) ≡ false
none_stands p xs h = ap (λ n. n == 1) (none_counted p xs h)

pub one_stands : (p : ℕ → Bool) (xs : List ℕ) (i : ℕ) → position p xs ≡ Some i → position p (drop (i + 1) xs) ≡ None → (count_by p xs == 1) ≡ true
one_stands p xs i first none = ap (λ n. n == 1) (first_counted p xs i first ∙ ap (λ n. 1 + n) (none_counted p (drop (i + 1) xs) none))

two_more : (n : ℕ) → (1 + (1 + n) == 1) ≡ false
two_more n = grind arith

pub two_stand : (p : ℕ → Bool) (xs : List ℕ) (i j : ℕ) → position p xs ≡ Some i → position p (drop (i + 1) xs) ≡ Some j → (count_by p xs == 1) ≡ false
two_stand p xs i j first second =
    ap (λ n. n == 1) (first_counted p xs i first ∙ ap (λ n. 1 + n) (first_counted p (drop (i + 1) xs) j second))
    ∙ two_more (count_by p (drop (j + 1) (drop (i + 1) xs)))
