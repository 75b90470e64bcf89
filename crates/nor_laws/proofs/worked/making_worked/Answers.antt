-- By computation; and where the first byte isn't the target's nothing is made below, where a later one isn't the content's all is.
use Rattle.std.proofs.Common.{◌≡◌, ℕ, zero, suc, ◌≤◌, List, ◌∷◌, ◌++◌, refl, arith, inl, inr}
use Rattle.std.specs.List.{slice_index}
use Rattle.std.proofs.lemmas.Bool.{cases_lt}
use Rattle.nor_base.specs.Blocks.{is_legal, block_at, smallest}
use Rattle.nor_base.specs.Need.{is_needed, lies_in_needed, erased_at, levelled}
use Rattle.nor_base.specs.Programs.{page_programs}
use Rattle.nor_base.specs.Units.{units, units_over}
use Rattle.nor_base.specs.Planned.{IsUnitOver, IsInTheMaking}
use Rattle.nor_laws.specs.Planning.{ff, two_have, two_want, two_units}
use Rattle.nor_laws.proofs.worked.making_worked.Goals as goal

pub returns-clause-units : goal.returns-clause-units
unfolding units units_over page_programs erased_at levelled lies_in_needed is_needed smallest block_at is_legal
returns-clause-units c = refl

-- the content from the first block's end on
above_first : (x : ℕ) → 4 ≤ x → slice_index (ff 4 ++ (0 ∷ ff 11)) x ≡ slice_index two_have x
above_first zero from = absurd (omega arith)
above_first (suc zero) from = absurd (omega arith)
above_first (suc (suc zero)) from = absurd (omega arith)
above_first (suc (suc (suc zero))) from = absurd (omega arith)
above_first (suc (suc (suc (suc k)))) from = refl

pub returns-clause-one : goal.returns-clause-one
returns-clause-one c = record { low = 0; high = 4; below = λ x before. absurd (omega arith); above = above_first; between = inr (inl (refl, refl)) }

-- no two addresses explain an array whose byte at 0 isn't the target's, and whose byte at 4 isn't the content's
none_over : (low high : ℕ) → low ≡ 0 → 5 ≤ high → IsUnitOver two_units low high → ⊥
none_over low high first last (inl is) = omega (arith, first, last, is.1)
none_over low high first last (inr (inl is)) = omega (arith, first, is.0)
none_over low high first last (inr (inr none)) = none

none_made : (array : List ℕ) → (slice_index array 0 ≡ 1 → ⊥) → (slice_index array 4 ≡ 0 → ⊥) → IsInTheMaking two_units two_have two_want array → ⊥
none_made array begins goes_on h =
    let first : h.low ≡ 0 = elim (cases_lt 0 h.low) [ inl some ↦ absurd (begins (h.below 0 some)) | inr none ↦ omega (arith, none) ] in
    let last : 5 ≤ h.high = elim (cases_lt 4 h.high) [ inl past ↦ omega (arith, past) | inr upto ↦ absurd (goes_on (h.above 4 upto)) ] in
    elim h.between [ inl same ↦ omega (arith, same, first, last) | inr over ↦ none_over h.low h.high first last over ]

pub returns-clause-both : goal.returns-clause-both
returns-clause-both c = none_made (ff 16) (λ h. cc) (λ h. cc)

pub returns-clause-second : goal.returns-clause-second
returns-clause-second c = none_made (0 ∷ (ff 3 ++ (1 ∷ ff 11))) (λ h. cc) (λ h. cc)
