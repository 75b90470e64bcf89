-- All that is compared before the steps.
use Rattle.std.proofs.Common.{◌≡◌, Bool, ℕ, ◌*◌, ◌/◌, ◌%◌, ◌<◌, ◌⊎◌, inl, inr, List, length, subst, arith}
use Rattle.std.specs.Prelude.{◌↔◌}
use Rattle.nor_cells.specs.Beside.{IsHeld, IsGap, IsBesideCell}
use Rattle.nor_cells.specs.Cells.{IsCellOf}
use Rattle.nor_cells.specs.Compared.{IsAsked}
use Rattle.nor_cells.specs.Edges.{IsEdge}
use Rattle.nor_cells.specs.Marks.{IsMarkedCell, MarkedBy, AreMarks}
use Rattle.nor_cells.specs.Wrap.{ShowsWrap}
use Rattle.nor_cells.proofs.TouchedLemmas.{are_then}

-- where the same cells are touched
gap_alike : (T U : ℕ → Type 0) (content : List ℕ) (low high : ℕ) → 256 * high < length content → ((d : ℕ) → 256 * d < length content → U d → T d) → IsGap T content low high
    → IsGap U content low high
gap_alike T U content low high inside from gap = record {
  order = gap.order;
  bare = λ d past before. ((gap.bare d past before).0, (λ is. (gap.bare d past before).1 (from d (omega (arith, before, inside)) is)));
}

held_inside : (content : List ℕ) (c : ℕ) → IsHeld content c → 256 * c < length content
held_inside content c h = omega (arith, h.within, h.there)

pub beside_alike : (T U : ℕ → Type 0) (content : List ℕ) (c : ℕ) → ((d : ℕ) → 256 * d < length content → (T d ↔ U d)) → IsBesideCell T content c → IsBesideCell U content c
beside_alike T U content c alike is = record {
  held = is.held;
  free = λ h. is.free ((alike c (held_inside content c is.held)).1 h);
  to = is.to;
  within = is.within;
  touched = (alike is.to is.within).0 is.touched;
  gap = elim is.gap [
    | inl up ↦ inl (gap_alike T U content c is.to is.within (λ d inside. (alike d inside).1) up)
    | inr down ↦ inr (gap_alike T U content is.to c (held_inside content c is.held) (λ d inside. (alike d inside).1) down)
  ];
}

-- a cell is marked just where some address in it is so
cell_alike : (P : ℕ → Type 0) (count : ℕ) (marks : List Bool) → AreMarks P count marks → (d : ℕ) → d < count → (IsMarkedCell marks d ↔ IsCellOf P d)
cell_alike P count marks are d inside =
    let at : 256 * d / 256 ≡ d = omega arith in
    subst (λ (k : ℕ). IsMarkedCell marks k ↔ IsCellOf P k) at (are.each (256 * d) (omega (arith, inside)))

flip : (P Q : Type 0) → (P ↔ Q) → (Q ↔ P)
flip P Q both = (both.1, both.0)

pub all_compared : (P : ℕ → Type 0) (content : List ℕ) (size : ℕ) (touched marks : List Bool) → length content ≡ size → size % 256 ≡ 0 → AreMarks P (size / 256) touched
    → MarkedBy (λ a. IsEdge content a ⊎ (IsBesideCell (IsMarkedCell touched) content (a / 256) ⊎ ShowsWrap content a)) touched marks
    → AreMarks (IsAsked P content) (size / 256) marks
all_compared P content size touched marks long whole are others =
    let alike = λ (d : ℕ) (inside : 256 * d < length content). cell_alike P (size / 256) touched are d (omega (arith, inside, long, whole)) in
    let back = λ (d : ℕ) (inside : 256 * d < length content). flip (IsMarkedCell touched d) (IsCellOf P d) (alike d inside) in
    let Others : ℕ → Type 0 = λ a. IsEdge content a ⊎ (IsBesideCell (IsMarkedCell touched) content (a / 256) ⊎ ShowsWrap content a) in
    are_then P Others (IsAsked P content) (size / 256) touched marks (λ a is. inl is)
    (λ a h. elim h [
      | inl edge ↦ inr (inl edge)
      | inr (inl near) ↦ inr (inr (inl (beside_alike (IsMarkedCell touched) (IsCellOf P) content (a / 256) alike near)))
      | inr (inr wrap) ↦ inr (inr (inr wrap))
    ])
    (λ a h. elim h [
      | inl is ↦ inl is
      | inr (inl edge) ↦ inr (inl edge)
      | inr (inr (inl near)) ↦ inr (inr (inl (beside_alike (IsCellOf P) (IsMarkedCell touched) content (a / 256) back near)))
      | inr (inr (inr wrap)) ↦ inr (inr (inr wrap))
    ])
    are others
