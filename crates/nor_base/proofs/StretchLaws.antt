-- Tests over a stretch of addresses.
use Rattle.std.proofs.Common.{◌≡◌, ℕ, zero, suc, ◌+◌, ◌<◌, ◌≤◌, Bool, true, false, refl, sym, ◌∙◌, ap, arith, inl, inr}
use Rattle.std.specs.List.{list_any, list_all, range_with_len}
use Rattle.std.proofs.Math.Bool.{or-true}
use Rattle.std.proofs.lemmas.Bool.{cases_lt}

pub any_at : (test : ℕ → Bool) (n start x : ℕ) → start ≤ x → x < start + n → test x ≡ true → list_any test (range_with_len start n) ≡ true
any_at test zero start x from upto h = absurd (omega arith)
any_at test (suc n) start x from upto h = elim (cases_lt start x) [
  | inl past ↦ rw (any_at test n (start + 1) x (omega arith) (omega arith) h) (or-true (test start))
  | inr here' ↦ let here : x ≡ start = omega arith in rw (ap test (sym here) ∙ h) refl
]

pub none_over : (test : ℕ → Bool) (n start : ℕ) → ((x : ℕ) → start ≤ x → x < start + n → test x ≡ false) → list_any test (range_with_len start n) ≡ false
none_over test zero start each = refl
none_over test (suc n) start each = rw (each start (omega arith) (omega arith)) (none_over test n (start + 1) (λ x from upto. each x (omega arith) (omega arith)))

pub all_over : (test : ℕ → Bool) (n start : ℕ) → ((x : ℕ) → start ≤ x → x < start + n → test x ≡ true) → list_all test (range_with_len start n) ≡ true
all_over test zero start each = refl
all_over test (suc n) start each = rw (each start (omega arith) (omega arith)) (all_over test n (start + 1) (λ x from upto. each x (omega arith) (omega arith)))
