-- Look-ups over a stretch of addresses.
use Rattle.std.proofs.Common.{◌≡◌, ℕ, zero, suc, ◌+◌, ◌<◌, ◌≤◌, Bool, true, false, if◌then◌else◌, List, [], ◌∷◌, ◌++◌, Some, None, refl, ◌∙◌, ap, arith, inl, inr}
use Rattle.std.specs.Prelude.{flat_map}
use Rattle.std.specs.List.{find, range_with_len}
use Rattle.std.proofs.lemmas.Bool.{cases_lt}

pub range_split : (start d n : ℕ) → range_with_len start (d + n) ≡ range_with_len start d ++ range_with_len (start + d) n
range_split start zero n =
    let none : 0 + n ≡ n = omega arith in
    let here : start ≡ start + 0 = omega arith in
    ap (range_with_len start) none ∙ ap (λ s. range_with_len s n) here
range_split start (suc d) n =
    let sum : suc d + n ≡ suc (d + n) = omega arith in
    let place : (start + 1) + d ≡ start + suc d = omega arith in
    ap (range_with_len start) sum ∙ ap (λ xs. start ∷ xs) (range_split (start + 1) d n)
    ∙ ap (λ s. start ∷ (range_with_len (start + 1) d ++ range_with_len s n)) place

pub find_none : (test : ℕ → Bool) (n start : ℕ) → ((x : ℕ) → start ≤ x → x < start + n → test x ≡ false) → find test (range_with_len start n) ≡ None
find_none test zero start none = refl
find_none test (suc n) start none =
    rw (none start (omega arith) (omega arith)) (find_none test n (start + 1) (λ x from upto. none x (omega arith) (omega arith)))

pub find_some : (test : ℕ → Bool) (n start a : ℕ) → start ≤ a → a < start + n → test a ≡ true
    → ((x : ℕ) → start ≤ x → x < a → test x ≡ false) → find test (range_with_len start n) ≡ Some a
find_some test zero start a from upto is before = absurd (omega arith)
find_some test (suc n) start a from upto is before = elim (cases_lt start a) [
  | inl past ↦
      rw (before start (omega arith) past) (find_some test n (start + 1) a (omega arith) (omega arith) is (λ x low high. before x (omega arith) high))
  | inr here' ↦ let here : start ≡ a = omega arith in rw (ap test here ∙ is) (ap (λ x. Some x) here)
]

pub find_same : (f g : ℕ → Bool) (n start : ℕ) → ((x : ℕ) → start ≤ x → x < start + n → f x ≡ g x)
    → find f (range_with_len start n) ≡ find g (range_with_len start n)
find_same f g zero start same = refl
find_same f g (suc n) start same =
    ap (λ b. if b then Some start else find f (range_with_len (start + 1) n)) (same start (omega arith) (omega arith))
    ∙ ap (λ o. if g start then Some start else o) (find_same f g n (start + 1) (λ x from upto. same x (omega arith) (omega arith)))

pub flat_same : {A : Type 0} (f g : ℕ → List A) (n start : ℕ) → ((x : ℕ) → start ≤ x → x < start + n → f x ≡ g x)
    → flat_map f (range_with_len start n) ≡ flat_map g (range_with_len start n)
flat_same f g zero start same = refl
flat_same f g (suc n) start same =
    ap (λ xs. xs ++ flat_map f (range_with_len (start + 1) n)) (same start (omega arith) (omega arith))
    ∙ ap (λ xs. g start ++ xs) (flat_same f g n (start + 1) (λ x from upto. same x (omega arith) (omega arith)))

pub flat_none : {A : Type 0} (f : ℕ → List A) (n start : ℕ) → ((x : ℕ) → start ≤ x → x < start + n → f x ≡ []) → flat_map f (range_with_len start n) ≡ []
flat_none f zero start none = refl
flat_none f (suc n) start none =
    ap (λ xs. xs ++ flat_map f (range_with_len (start + 1) n)) (none start (omega arith) (omega arith))
    ∙ flat_none f n (start + 1) (λ x from upto. none x (omega arith) (omega arith))
