-- One smallest block more.
use Rattle.std.proofs.Common.{◌≡◌, ℕ, ◌+◌, ◌≤◌, List, ◌++◌, length, sym, ◌∙◌, ap, arith, append_assoc}
use Rattle.std.specs.Prelude.{flat_map}
use Rattle.std.specs.List.{range_with_len, slice_range}
use Rattle.std.proofs.lemmas.Grind.{flat_map-append}
use Rattle.nor_base.specs.Parameters.{Parameters}
use Rattle.nor_base.specs.Blocks.{Block}
use Rattle.nor_plan_laws.proofs.Units.Ranges.{length-range}
use Rattle.nor_outline.specs.Outline.{reason, reason_at}
use Rattle.nor_outline.specs.declared.line.PlanLine.{PlanLine}
use Rattle.nor_outline.specs.Parts.{due_in}
use Rattle.nor_outline.proofs.RangeLemmas.{range_split}
use Rattle.nor_outline.proofs.ReasonLemmas.{IsNextIn}
use Rattle.nor_outline.proofs.UnitLemmas.{due_part, reason_same}

-- the line of so many bytes of a block from a place on, by those bytes alone
abbrev pub piece : Parameters → List ℕ → List ℕ → ℕ → ℕ → ℕ → List PlanLine
piece m have want start done size =
    reason (due_in m (slice_range have done (done + size)) (slice_range want done (done + size)) (start + done)) (start + done)
    (length (slice_range have done (done + size)))

-- the lines of so many addresses of a block from one on
abbrev pub lines : Parameters → List ℕ → List ℕ → ℕ → ℕ → ℕ → List PlanLine
lines m have want start from count = flat_map (reason_at m (due_in m have want start)) (range_with_len from count)

piece_is : (m : Parameters) (b least : Block) (have want : List ℕ) (start done size : ℕ) → start ≡ b.start → size ≡ least.size → done + size ≤ length have
    → IsNextIn m b (b.start + done) least → piece m have want start done size ≡ lines m have want b.start (b.start + done) least.size
piece_is m b least have want start done size starts sizes fits next =
    let count : length (slice_range have done (done + least.size)) ≡ least.size =
    omega (arith, length-range have done (done + least.size) (omega arith) (omega (arith, sizes))) in
    ap (λ s. piece m have want s done size) starts ∙ ap (piece m have want b.start done) sizes
    ∙ ap (reason (due_in m (slice_range have done (done + least.size)) (slice_range want done (done + least.size)) (b.start + done)) (b.start + done)) count
    ∙ reason_same (due_in m (slice_range have done (done + least.size)) (slice_range want done (done + least.size)) (b.start + done)) (due_in m have want b.start)
    (b.start + done) least.size (λ x from upto. due_part m have want b.start done (done + least.size) x (omega arith) from (omega arith))
    ∙ sym (next.text (due_in m have want b.start))

joined : (m : Parameters) (have want : List ℕ) (start done count : ℕ)
    → lines m have want start start (done + count) ≡ lines m have want start start done ++ lines m have want start (start + done) count
joined m have want start done count =
    ap (flat_map (reason_at m (due_in m have want start))) (range_split start done count)
    ∙ flat_map-append (reason_at m (due_in m have want start)) (range_with_len start done) (range_with_len (start + done) count)

pub one_more : (m : Parameters) (b least : Block) (have want : List ℕ) (start done size : ℕ) (old now new : List PlanLine) → start ≡ b.start → size ≡ least.size
    → done + size ≤ length have → IsNextIn m b (b.start + done) least → now ≡ old ++ lines m have want b.start b.start done
    → new ≡ now ++ piece m have want start done size → new ≡ old ++ lines m have want b.start b.start (done + size)
one_more m b least have want start done size old now new starts sizes fits next before put =
    let whole = joined m have want b.start done least.size in
    let part = piece_is m b least have want start done size starts sizes fits next in
    let front = lines m have want b.start b.start done in
    let size' : done + least.size ≡ done + size = omega (arith, sizes) in
    put ∙ ap (λ xs. xs ++ piece m have want start done size) before ∙ append_assoc old front (piece m have want start done size)
    ∙ ap (λ xs. old ++ xs) (ap (λ xs. front ++ xs) part ∙ sym whole ∙ ap (lines m have want b.start b.start) size')
