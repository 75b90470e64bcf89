-- The order of verdicts.
use Rattle.std.proofs.Common.{◌≡◌, ℕ, ◌+◌, ◌<◌, ◌≤◌, ◌==◌, nat_lt, Bool, true, false, ◌&&◌, ◌||◌, if◌then◌else◌, refl, sym, ◌∙◌, ap, arith, inl, inr}
use Rattle.std.specs.Prelude.{◌⊎◌}
use Rattle.std.proofs.lemmas.Bool.{and_cases, and_left, and_parts, and_right, cases_lt, eqb-false, eqb-true, le-ltb, ltb-false, ltb-true, ne_eqb, or_cases, or_from, or_parts}
use Rattle.nor_check.specs.declared.verdict.Verdict.{Verdict}
use Rattle.nor_check.specs.declared.verdict.Verdict.TheVariants.{Yes, No}
use Rattle.nor_check.specs.Order.{rank, is_before, earlier}
use Rattle.nor_check.specs.Judged.{later}

-- the first is no later than the second
abbrev pub IsNoLater : Verdict → Verdict → Type 0
IsNoLater v Yes = Unit {0}
IsNoLater Yes (No n b) = ⊥
IsNoLater (No k a) (No n b) = (k < n) ⊎ ((k ≡ n) × (rank a ≤ rank b))

none_before : (n k rb ra : ℕ) → (k < n) ⊎ ((k ≡ n) × (ra ≤ rb)) → nat_lt n k || ((n == k) && nat_lt rb ra) ≡ false
none_before n k rb ra (inl less) = or_from (nat_lt n k) _ (le-ltb n k (omega arith)) (and_left (n == k) _ (ne_eqb n k (λ same. omega arith)))
none_before n k rb ra (inr same) =
    let numbers = same.0 in or_from (nat_lt n k) _ (le-ltb n k (omega arith)) (and_right (n == k) _ (le-ltb rb ra same.1))

pub told : (v u : Verdict) → IsNoLater v u → is_before u v ≡ false
told v Yes h = refl
told Yes (No n b) h = absurd h
told (No k a) (No n b) h = none_before n k (rank b) (rank a) h

not_before : (n k rb ra : ℕ) → nat_lt n k ≡ false → (n == k) && nat_lt rb ra ≡ false → (k < n) ⊎ ((k ≡ n) × (ra ≤ rb))
not_before n k rb ra upto none = elim (cases_lt k n) [
  | inl less ↦ inl less
  | inr more ↦
      let most = ltb-false n k upto in
      let same : k ≡ n = omega arith in
      let ranks : nat_lt rb ra ≡ false = elim (and_cases (n == k) (nat_lt rb ra) none) [ inl other ↦ absurd (eqb-false n k other (sym same)) | inr is ↦ is ] in
      inr (same, ltb-false rb ra ranks)
]

pub untold : (v u : Verdict) → is_before u v ≡ false → IsNoLater v u
untold v Yes h = tt
untold Yes (No n b) h = cc
untold (No k a) (No n b) h = let parts = or_parts (nat_lt n k) _ h in not_before n k (rank b) (rank a) parts.0 parts.1

pub before_no_later : (v u : Verdict) → is_before v u ≡ true → IsNoLater v u
before_no_later Yes u h = cc
before_no_later (No k a) Yes h = tt
before_no_later (No k a) (No n b) h = elim (or_cases (nat_lt k n) _ h) [
  | inl less ↦ inl (ltb-true k n less)
  | inr same ↦
      let parts = and_parts (k == n) _ same in
      let less = ltb-true (rank a) (rank b) parts.1 in
      inr (eqb-true k n parts.0, omega arith)
]

pub no_later_self : (v : Verdict) → IsNoLater v v
no_later_self Yes = tt
no_later_self (No n a) = inr (refl, omega arith)

pub no_later_trans : (v u t : Verdict) → IsNoLater v u → IsNoLater u t → IsNoLater v t
no_later_trans v u Yes h g = tt
no_later_trans Yes Yes (No n b) h g = absurd g
no_later_trans Yes (No j c) (No n b) h g = absurd h
no_later_trans (No k a) Yes (No n b) h g = absurd g
no_later_trans (No k a) (No j c) (No n b) (inl less) (inl more) = inl (omega arith)
no_later_trans (No k a) (No j c) (No n b) (inl less) (inr same) = let numbers = same.0 in inl (omega arith)
no_later_trans (No k a) (No j c) (No n b) (inr same) (inl more) = let numbers = same.0 in inl (omega arith)
no_later_trans (No k a) (No j c) (No n b) (inr same) (inr too) =
    let low = same.1 in
    let high = too.1 in
    inr (same.0 ∙ too.0, omega arith)

earlier_by : (v u : Verdict) (b : Bool) → is_before u v ≡ b → IsNoLater (if b then u else v) v × IsNoLater (if b then u else v) u
earlier_by v u true is = (before_no_later u v is, no_later_self u)
earlier_by v u false is = (no_later_self v, untold v u is)

-- the earlier of two is later than neither
pub earlier_of : (v u : Verdict) → IsNoLater (earlier v u) v × IsNoLater (earlier v u) u
earlier_of v u = earlier_by v u (is_before u v) refl

pub later_too : (v u : Verdict) → IsNoLater v u → IsNoLater (later v) (later u)
later_too v Yes h = tt
later_too Yes (No n b) h = absurd h
later_too (No k a) (No n b) (inl less) = inl (omega arith)
later_too (No k a) (No n b) (inr same) = inr (ap (λ m. m + 1) same.0, same.1)
