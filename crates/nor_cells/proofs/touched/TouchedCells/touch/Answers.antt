-- The marks of the vector go on from those before.
use Rattle.std.proofs.Common.{Bool, List, refl, sym, ◌∙◌, subst}
use Rattle.std.proofs.lemmas.List.{with_items_is}
use Rattle.nor_cells.specs.Marks.{MarkedBy}
use Rattle.nor_cells.specs.Touched.{HasTouched, IsTouched}
use Rattle.nor_cells.proofs.TouchedLemmas.{touches_more}
use Rattle.nor_cells.proofs.touched.TouchedCells.touch.Goals as goal

pub returns : goal.returns
returns c = λ m start done h.
    let marked = c.mark_steps-self-inside.ensures.marked in
    let new = c.mark_steps-self-inside.new.marks in
    let Marks : List Bool → List Bool → Type 0 = MarkedBy (IsTouched c.self.inside.meaning.now c.self.inside.mode4 c.args.steps.now) in
    touches_more m start done c.args.steps.now _ _ (subst (HasTouched m start done) (sym c.self.view_is) h) refl c.mark_steps-self-inside.ensures.mode
    (subst (Marks c.self.inside.marks.items) (sym (with_items_is c.self.inside.marks new (marked.same_length ∙ c.as_mut_slice.ensures.len)))
    (subst (λ (l : List Bool). Marks l new) c.as_mut_slice.ensures.value marked))
