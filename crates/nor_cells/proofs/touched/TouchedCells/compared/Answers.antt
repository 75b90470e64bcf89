-- The marks of the touched cells, and then the others.
use Rattle.std.proofs.Common.{Bool, List, ℕ, ◌/◌, ◌⊎◌, sym, ◌∙◌, ap, subst, arith}
use Rattle.std.proofs.lemmas.List.{with_items_is}
use Rattle.nor_base.specs.Chip.{begins4}
use Rattle.nor_base.specs.Parameters.{Parameters}
use Rattle.nor_cells.specs.Beside.{IsBesideCell}
use Rattle.nor_cells.specs.Compared.{IsAsked}
use Rattle.nor_cells.specs.Edges.{IsEdge}
use Rattle.nor_cells.specs.Marks.{AreMarks, IsMarkedCell, MarkedBy}
use Rattle.nor_cells.specs.Touched.{HasTouched, IsTouched}
use Rattle.nor_cells.specs.Wrap.{ShowsWrap}
use Rattle.nor_cells.proofs.ComparedLemmas.{all_compared}
use Rattle.nor_cells.proofs.touched.TouchedCells.compared.Goals as goal

pub returns : goal.returns
returns c = λ m start steps h.
    let has = subst (HasTouched m start steps) (sym c.self.view_is) h in
    let content = c.args.content.now in
    let touched = c.as_slice-touched.result.now in
    let new = c.mark_others.new.marks in
    let P : ℕ → Type 0 = IsTouched m (begins4 m start) steps in
    let Others : ℕ → Type 0 = λ a. IsEdge content a ⊎ (IsBesideCell (IsMarkedCell touched) content (a / 256) ⊎ ShowsWrap content a) in
    subst (AreMarks (IsAsked P content) (m.size / 256)) (sym (with_items_is c.in_ok-marks.marks new (c.mark_others.ensures.same_length ∙ c.as_mut_slice.ensures.len)))
    (all_compared P content m.size touched new (c.requires ∙ ap (λ (p : Parameters). p.size) h.meaning)
    (omega (arith, c.acceptance.ensures.size_whole, ap (λ (p : Parameters). p.size) has.meaning))
    (subst (AreMarks P (m.size / 256)) (sym c.as_slice-touched.ensures.value) has.marks)
    (subst (λ (l : List Bool). MarkedBy Others l new) (c.as_mut_slice.ensures.value ∙ c.in_ok-marks.ensures.items) c.mark_others.ensures))
