-- The bytes by which a smaller chip shows.
use Rattle.std.proofs.Common.{◌≡◌, Bool, ℕ, ◌+◌, ◌*◌, ◌%◌, ◌^◌, ◌<◌, ◌≤◌, ◌⊎◌, inl, inr, List, length, ◌∙◌, ap, subst, arith}
use Rattle.std.proofs.Math.Nat.{pow-le-pow_right}
use Rattle.std.proofs.lemmas.Bool.{cases_lt}
use Rattle.std.proofs.lemmas.Nat.{pow_below}
use Rattle.nor_cells.specs.Marks.{MarkedBy}
use Rattle.nor_cells.specs.Touched.{LiesBetween}
use Rattle.nor_cells.specs.Wrap.{IsFirstUnlike, TellsApart, ShowsWrap}
use Rattle.nor_cells.proofs.TouchedLemmas.{marked_alike, marked_then}

-- there is one such address at most
pub one_unlike : (content : List ℕ) (far a b : ℕ) → IsFirstUnlike content far a → IsFirstUnlike content far b → a ≡ b
one_unlike content far a b one other = elim (cases_lt a b) [
  | inl below ↦ absurd (one.unlike (other.alike a below))
  | inr past ↦ elim (cases_lt b a) [ inl above ↦ absurd (other.unlike (one.alike b above)) | inr same ↦ omega (arith, past, same) ]
]

-- both bytes are marked
pub both_marked : (content : List ℕ) (far at : ℕ) (old now new : List Bool) → IsFirstUnlike content far at → MarkedBy (LiesBetween at (at + 1)) old now
    → MarkedBy (LiesBetween (at + far) (at + far + 1)) now new → MarkedBy (TellsApart content far) old new
both_marked content far at old now new first one other =
    marked_alike (λ a. LiesBetween at (at + 1) a ⊎ LiesBetween (at + far) (at + far + 1) a) (TellsApart content far) old new
    (λ a h. elim h [
      | inl here ↦ let same : at ≡ a = omega (arith, here.0, here.1) in inl (subst (λ (b : ℕ). IsFirstUnlike content far b) same first)
      | inr there ↦ inr (at, first, omega (arith, there.0, there.1))
    ])
    (λ a h. elim h [
      | inl is ↦ let same : a ≡ at = one_unlike content far a at is first in inl (omega (arith, same), omega (arith, same))
      | inr is ↦ let same : is.0 ≡ at = one_unlike content far is.0 at is.1 first in
          let far_on : a ≡ at + far = is.2 ∙ ap (λ b. b + far) same in inr (omega (arith, far_on), omega (arith, far_on))
    ])
    (marked_then (LiesBetween at (at + 1)) (LiesBetween (at + far) (at + far + 1)) old now new one other)

-- the sizes so far
abbrev pub ShowsWrapBelow : List ℕ → ℕ → ℕ → Type 0
ShowsWrapBelow content below a = (k : ℕ) × (12 ≤ k) × (k < below) × TellsApart content (2 ^ k) a

pub wrap_next : (content : List ℕ) (k : ℕ) (old now new : List Bool) → 12 ≤ k → MarkedBy (ShowsWrapBelow content k) old now
    → MarkedBy (TellsApart content (2 ^ k)) now new → MarkedBy (ShowsWrapBelow content (k + 1)) old new
wrap_next content k old now new low so_far one =
    marked_alike (λ a. ShowsWrapBelow content k a ⊎ TellsApart content (2 ^ k) a) (ShowsWrapBelow content (k + 1)) old new
    (λ a h. elim h [ inl before ↦ (before.0, before.1, omega (arith, before.2), before.3) | inr here ↦ (k, low, omega arith, here) ])
    (λ a h. elim (cases_lt h.0 k) [
      | inl below ↦ inl (h.0, h.1, below, h.3)
      | inr past ↦ let same : h.0 ≡ k = omega (arith, h.2, past) in inr (subst (λ (j : ℕ). TellsApart content (2 ^ j) a) same h.3)
    ])
    (marked_then (ShowsWrapBelow content k) (TellsApart content (2 ^ k)) old now new so_far one)

-- and there are no more: a content isn't longer than 2^32 bytes
grows : (n k : ℕ) → n ≤ k → 2 ^ n ≤ 2 ^ k
grows n k le = pow-le-pow_right (omega arith) le

pub wrap_all : (content : List ℕ) (k : ℕ) (old new : List Bool) → length content ≤ 2 ^ 32 → 32 ≤ k → MarkedBy (ShowsWrapBelow content k) old new
    → MarkedBy (ShowsWrap content) old new
wrap_all content k old new small all marked =
    marked_alike (ShowsWrapBelow content k) (ShowsWrap content) old new (λ a h. (h.0, h.1, h.3))
    (λ a h. elim (cases_lt h.0 k) [
      | inl below ↦ (h.0, h.1, below, h.2)
      | inr past ↦
          let long : 2 ^ 32 ≤ 2 ^ h.0 = grows 32 h.0 (omega (arith, all, past)) in
          absurd (elim h.2 [
            | inl first ↦ let inside = first.within in omega (arith, inside, long, small)
            | inr other ↦ let inside = other.1.within in omega (arith, inside, long, small)
          ])
    ]) marked

-- a shift is a power of two
pub shifted : (k : ℕ) → k < 32 → 1 * 2 ^ k % 18446744073709551616 ≡ 2 ^ k
shifted k few =
    let small : 2 ^ k < 2 ^ 64 = pow_below k 64 (omega (arith, few)) in
    omega (arith, small)
