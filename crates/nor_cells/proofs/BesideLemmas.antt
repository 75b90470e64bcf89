-- The held cells beside touched ones.
use Rattle.std.proofs.Common.{◌≡◌, Bool, true, false, ℕ, ◌/◌, ◌<◌, ◌⊎◌, inl, inr, ◌||◌, List, length, get_or, refl, sym, ◌∙◌}
use Rattle.std.specs.Prelude.{IsTrue}
use Rattle.nor_cells.specs.Beside.{IsHeld, IsGap, IsBesideCell}
use Rattle.nor_cells.specs.Marks.{IsMarkedCell}

-- a touched cell from which nothing but a gap leads to this one, above it and below it
abbrev pub IsAbove : List Bool → List ℕ → ℕ → Type 0
IsAbove touched content c = (to : ℕ) × (to < length touched) × IsMarkedCell touched to × IsGap (IsMarkedCell touched) content c to

abbrev pub IsBelow : List Bool → List ℕ → ℕ → Type 0
IsBelow touched content c = (to : ℕ) × (to < length touched) × IsMarkedCell touched to × IsGap (IsMarkedCell touched) content to c

-- the cells from one to before another are bare
abbrev pub AreBare : List Bool → List ℕ → ℕ → ℕ → Type 0
AreBare touched content low high = (d : ℕ) → low < d → d < high → (IsHeld content d → ⊥) × (IsMarkedCell touched d → ⊥)

-- a cell can't be marked and not
not_both : (touched : List Bool) (d : ℕ) → get_or touched d false ≡ false → IsMarkedCell touched d → ⊥
not_both touched d isnt is = absurd (let both : true ≡ false = sym is ∙ isnt in cc)

-- both together
or_true : (p q : Bool) → IsTrue (p || q) → (p ≡ true) ⊎ (q ≡ true)
or_true true q h = inl refl
or_true false q h = inr h

or_left : (p q : Bool) → p ≡ true → IsTrue (p || q)
or_left true q h = refl
or_left false q h = cc

or_right : (p q : Bool) → q ≡ true → IsTrue (p || q)
or_right true q h = refl
or_right false q h = h

-- the cells below one
abbrev pub IsBesideBelow : (ℕ → Type 0) → List ℕ → ℕ → ℕ → Type 0
IsBesideBelow Touched content c a = (a / 256 < c) × IsBesideCell Touched content (a / 256)
