-- Each byte that is given.
use Rattle.std.proofs.Common.{◌≡◌, ℕ, zero, suc, ◌+◌, ◌-◌, ◌<◌, ◌≤◌, [], ◌∷◌, refl, arith}
use Rattle.std.specs.Prelude.{slice_index}
use Rattle.nor_reader.specs.Modes.{address_of}
use Rattle.nor_reader.specs.Worked.{counted}
use Rattle.nor_reader.proofs.worked.modes_worked.Goals as goal

right_gives : (j : ℕ) → j < 3 → 3 ≤ 3 + j
    → slice_index (14 ∷ 15 ∷ 0 ∷ []) j ≡ counted (address_of 3 (0 ∷ 0 ∷ 14 ∷ 0 ∷ 0 ∷ 0 ∷ []) + (3 + j - 3))
right_gives zero within late = refl
right_gives (suc zero) within late = refl
right_gives (suc (suc zero)) within late = refl
right_gives (suc (suc (suc j))) within late = absurd (omega arith)

three_gives : (j : ℕ) → j < 4 → 4 ≤ 3 + j
    → slice_index (170 ∷ 15 ∷ 0 ∷ 1 ∷ []) j ≡ counted (address_of 4 (0 ∷ 0 ∷ 1 ∷ 255 ∷ 0 ∷ 0 ∷ 0 ∷ []) + (3 + j - 4))
three_gives zero within late = absurd (omega arith)
three_gives (suc zero) within late = refl
three_gives (suc (suc zero)) within late = refl
three_gives (suc (suc (suc zero))) within late = refl
three_gives (suc (suc (suc (suc j)))) within late = absurd (omega arith)

four_gives : (j : ℕ) → j < 3 → 3 ≤ 4 + j
    → slice_index (2 ∷ 3 ∷ 4 ∷ []) j ≡ counted (address_of 3 (0 ∷ 0 ∷ 1 ∷ 0 ∷ 0 ∷ 0 ∷ 0 ∷ []) + (4 + j - 3))
four_gives zero within late = refl
four_gives (suc zero) within late = refl
four_gives (suc (suc zero)) within late = refl
four_gives (suc (suc (suc j))) within late = absurd (omega arith)

few_gives : (j : ℕ) → j < 8 → 4 ≤ 3 + j
    → slice_index (9 ∷ 15 ∷ 0 ∷ 1 ∷ 2 ∷ 3 ∷ 4 ∷ 5 ∷ []) j ≡ counted (address_of 4 (0 ∷ 0 ∷ 0 ∷ 255 ∷ 0 ∷ 0 ∷ 0 ∷ 0 ∷ 0 ∷ 0 ∷ 0 ∷ []) + (3 + j - 4))
few_gives zero within late = absurd (omega arith)
few_gives (suc zero) within late = refl
few_gives (suc (suc zero)) within late = refl
few_gives (suc (suc (suc zero))) within late = refl
few_gives (suc (suc (suc (suc zero)))) within late = refl
few_gives (suc (suc (suc (suc (suc zero))))) within late = refl
few_gives (suc (suc (suc (suc (suc (suc zero)))))) within late = refl
few_gives (suc (suc (suc (suc (suc (suc (suc zero))))))) within late = refl
few_gives (suc (suc (suc (suc (suc (suc (suc (suc j)))))))) within late = absurd (omega arith)

few_again_gives : (j : ℕ) → j < 8 → 4 ≤ 3 + j
    → slice_index (15 ∷ 0 ∷ 1 ∷ 2 ∷ 3 ∷ 4 ∷ 5 ∷ 6 ∷ []) j ≡ counted (address_of 4 (0 ∷ 0 ∷ 1 ∷ 0 ∷ 0 ∷ 0 ∷ 0 ∷ 0 ∷ 0 ∷ 0 ∷ 0 ∷ []) + (3 + j - 4))
few_again_gives zero within late = absurd (omega arith)
few_again_gives (suc zero) within late = refl
few_again_gives (suc (suc zero)) within late = refl
few_again_gives (suc (suc (suc zero))) within late = refl
few_again_gives (suc (suc (suc (suc zero)))) within late = refl
few_again_gives (suc (suc (suc (suc (suc zero))))) within late = refl
few_again_gives (suc (suc (suc (suc (suc (suc zero)))))) within late = refl
few_again_gives (suc (suc (suc (suc (suc (suc (suc zero))))))) within late = refl
few_again_gives (suc (suc (suc (suc (suc (suc (suc (suc j)))))))) within late = absurd (omega arith)

pub returns-clause-right : goal.returns-clause-right
returns-clause-right c = record { driven = 0 ∷ 0 ∷ 0 ∷ []; bytes = refl; each = refl; gives = right_gives }

pub returns-clause-three : goal.returns-clause-three
returns-clause-three c = record { driven = 255 ∷ 0 ∷ 0 ∷ 0 ∷ []; bytes = refl; each = refl; gives = three_gives }

pub returns-clause-four : goal.returns-clause-four
returns-clause-four c = record { driven = 0 ∷ 0 ∷ 0 ∷ []; bytes = refl; each = refl; gives = four_gives }

pub returns-clause-few : goal.returns-clause-few
returns-clause-few c = (record { driven = 255 ∷ 0 ∷ 0 ∷ 0 ∷ 0 ∷ 0 ∷ 0 ∷ 0 ∷ []; bytes = refl; each = refl; gives = few_gives }, record { driven = 0 ∷ 0 ∷ 0 ∷ 0 ∷ 0 ∷ 0 ∷ 0 ∷ 0 ∷ []; bytes = refl; each = refl; gives = few_again_gives })
