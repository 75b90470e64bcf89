-- First the edges, then the cells beside, then the wraps.
use Rattle.std.proofs.Common.{ℕ, ◌/◌, ◌⊎◌, inl, inr}
use Rattle.nor_cells.specs.Beside.{IsBesideCell}
use Rattle.nor_cells.specs.Edges.{IsEdge}
use Rattle.nor_cells.specs.Marks.{IsMarkedCell}
use Rattle.nor_cells.specs.Wrap.{ShowsWrap}
use Rattle.nor_cells.proofs.TouchedLemmas.{marked_alike, marked_then}
use Rattle.nor_cells.proofs.touched.mark_others.Goals as goal

pub returns : goal.returns
returns c =
    let content = c.args.content.now in
    let Near : ℕ → Type 0 = λ a. IsBesideCell (IsMarkedCell c.args.touched.now) content (a / 256) in
    let Edge : ℕ → Type 0 = IsEdge content in
    let Wrap : ℕ → Type 0 = ShowsWrap content in
    marked_alike (λ a. (Edge a ⊎ Near a) ⊎ Wrap a) (λ a. Edge a ⊎ (Near a ⊎ Wrap a)) c.args.marks.now c.mark_wraps.new.marks
    (λ a h. elim h [ inl (inl e) ↦ inl e | inl (inr n) ↦ inr (inl n) | inr w ↦ inr (inr w) ])
    (λ a h. elim h [ inl e ↦ inl (inl e) | inr (inl n) ↦ inl (inr n) | inr (inr w) ↦ inr w ])
    (marked_then (λ a. Edge a ⊎ Near a) Wrap c.args.marks.now c.mark_beside.new.marks c.mark_wraps.new.marks
    (marked_then Edge Near c.args.marks.now c.mark_edges.new.marks c.mark_beside.new.marks c.mark_edges.ensures c.mark_beside.ensures) c.mark_wraps.ensures)
