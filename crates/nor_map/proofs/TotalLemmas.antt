-- The text of the totals, by its numbers.
use Rattle.std.proofs.Common.{◌≡◌, ℕ, List, ◌++◌, Vec, Global, Result, Ok, Err, IfOk, refl, ◌∙◌}
use Rattle.std.specs.Prelude.{codes, decimal}
use Rattle.nor_map.specs.declared.state.State.TheVariants.{Kept, Erased, Restored, Changed}
use Rattle.nor_map.specs.Marks.{Marks}
use Rattle.nor_map.specs.Totals.{cells_in, totals_text}

pub totals_are : {E : Type 0} (m : Marks) (b p c w e k : List ℕ) (r : Result (Vec ℕ Global) E) → b ≡ decimal m.blocks → p ≡ decimal m.programs
    → c ≡ decimal (cells_in m Changed) → w ≡ decimal (cells_in m Restored) → e ≡ decimal (cells_in m Erased) → k ≡ decimal (cells_in m Kept)
    → IfOk r (λ text. text.items ≡ codes "erases " ++ (b ++ (codes ", programs " ++ (p ++ (codes "; cells: " ++ (c ++ (codes " changed, " ++ (w
    ++ (codes " written back, " ++ (e ++ (codes " erased, " ++ (k ++ codes " as they were")))))))))))) → IfOk r (λ text. text.items ≡ totals_text m)
totals_are m b p c w e k (Err why) b_is p_is c_is w_is e_is k_is is = tt
totals_are m b p c w e k (Ok text) b_is p_is c_is w_is e_is k_is is = is ∙ rw (b_is, p_is, c_is, w_is, e_is, k_is) refl
