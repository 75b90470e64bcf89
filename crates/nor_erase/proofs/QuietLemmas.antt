-- Bytes side by side of which none is due.
use Rattle.std.proofs.Common.{◌≡◌, ℕ, zero, suc, ◌+◌, ◌-◌, ◌<◌, ◌≤◌, Bool, false, ◌||◌, List, [], ◌∷◌, length, get_or, refl, sym, ◌∙◌, ap, arith, inl, inr}
use Rattle.std.specs.Simd.Lanes.{chunk}
use Rattle.std.proofs.lemmas.Bool.{or_parts, cases_lt}
use Rattle.std.proofs.lemmas.Simd.{length-chunk, get_or-chunk}
use Rattle.nor_base.specs.Parameters.{Parameters}
use Rattle.nor_base.specs.Need.{is_due}
use Rattle.nor_erase.specs.Bytes.{is_due_over, any_pair}

none_in : (test : ℕ → ℕ → Bool) (xs ys : List ℕ) (k : ℕ) → any_pair test (xs, ys) ≡ false → k < length xs → k < length ys
    → test (get_or xs k 0) (get_or ys k 0) ≡ false
none_in test [] ys k none left right = absurd (omega arith)
none_in test (x ∷ xs) [] k none left right = absurd (omega arith)
none_in test (x ∷ xs) (y ∷ ys) zero none left right = (or_parts (test x y) (any_pair test (xs, ys)) none).0
none_in test (x ∷ xs) (y ∷ ys) (suc k) none left right =
    none_in test xs ys k (or_parts (test x y) (any_pair test (xs, ys)) none).1 (omega arith) (omega arith)

-- of 32 bytes from a place on
none_of : (test : ℕ → ℕ → Bool) (xs ys : List ℕ) (i k : ℕ) → length xs ≡ length ys → i + 32 ≤ length xs → any_pair test (chunk i 32 xs, chunk i 32 ys) ≡ false
    → i ≤ k → k < i + 32 → test (get_or xs k 0) (get_or ys k 0) ≡ false
none_of test xs ys i k long inside none low high =
    let d = k - i in
    let here : i + (k - i) ≡ k = omega arith in
    let first = length-chunk i 32 xs inside in
    let second = length-chunk i 32 ys (omega arith) in
    let told = none_in test (chunk i 32 xs) (chunk i 32 ys) (k - i) none (omega (arith, first)) (omega (arith, second)) in
    let at : (zs : List ℕ) → get_or (chunk i 32 zs) (k - i) 0 ≡ get_or zs k 0 = λ zs. get_or-chunk i 32 zs (k - i) 0 (omega arith) ∙ ap (λ n. get_or zs n 0) here in
    sym (ap (λ n. test n (get_or (chunk i 32 ys) (k - i) 0)) (at xs) ∙ ap (test (get_or xs k 0)) (at ys)) ∙ told

-- 32 bytes more
pub quiet_more : (m : Parameters) (have want : List ℕ) (start i : ℕ) → length have ≡ length want → i + 32 ≤ length have
    → any_pair (is_due_over m) (chunk i 32 have, chunk i 32 want) ≡ false → ((k : ℕ) → start ≤ k → k < i → is_due m have want k ≡ false)
    → (k : ℕ) → start ≤ k → k < i + 32 → is_due m have want k ≡ false
quiet_more m have want start i long inside none before k low high = elim (cases_lt k i) [
  | inl below ↦ before k low below
  | inr past ↦ none_of (is_due_over m) have want i k long inside none past high
]

same_any : (f g : ℕ → ℕ → Bool) → ((x y : ℕ) → f x y ≡ g x y) → (xs ys : List ℕ) → any_pair f (xs, ys) ≡ any_pair g (xs, ys)
same_any f g same [] ys = refl
same_any f g same (x ∷ xs) [] = refl
same_any f g same (x ∷ xs) (y ∷ ys) = ap (λ b. b || any_pair f (xs, ys)) (same x y) ∙ ap (λ b. g x y || b) (same_any f g same xs ys)
