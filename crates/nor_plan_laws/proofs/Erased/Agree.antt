-- The strategy's smallest block, and what doesn't lie across 2^24.
use Rattle.std.proofs.Common.{◌≡◌, ℕ, zero, suc, ◌+◌, ◌%◌, ◌^◌, ◌<◌, ◌≤◌, ◌==◌, Bool, true, List, Some, refl, sym, ◌∙◌, ap, subst, arith, eqb-true, eq-eqb}
use Rattle.std.specs.Prelude.{option_map}
use Rattle.std.specs.List.{list_all, range_with_len}
use Rattle.std.proofs.Math.Pow.{pow_mono, pow_pos}
use Rattle.nor_base.specs.declared.meaning.Erase.{Erase}
use Rattle.nor_base.specs.Parameters.{Parameters}
use Rattle.nor_base.specs.Accepted.{IsPowerOfTwo}
use Rattle.nor_base.specs.Blocks.{Block, smallest}
use Rattle.nor_base.specs.Chip.{resting}
use Rattle.nor_base.specs.Strategies.{strategy}
use Rattle.nor_base.specs.Need.{is_needed, lies_in_needed}
use Rattle.nor_base.specs.Operations.{does, instructions}
use Rattle.nor_plan_laws.specs.Able.{OperationIsDone, SmallestAgree, BlocksStay, PagesStay}
use Rattle.nor_plan_laws.proofs.Task.Steps.{leads_runs}
use Rattle.nor_plan_laws.proofs.Task.Ops.{op_moves}
use Rattle.nor_geometry.proofs.KindLemmas.{legal_kind, size_of}
use Rattle.nor_geometry.proofs.WindowLemmas.{divides}
use Rattle.nor_plan_laws.proofs.Erased.Erasing.{there, can_erase, legal_parts}
use Rattle.nor_plan_laws.proofs.Erased.Reached.{small, has_block}
use Rattle.nor_plan_laws.proofs.Erased.Needed.{all_at, needed_caused}
use Rattle.nor_plan_laws.proofs.Spelling.Sent.{ends_before, power_small}
use Rattle.nor_plan_laws.proofs.Units.Wider.{some_page}

-- nothing holds but that something is
abbrev Always : List ℕ → Type 0
Always array = Unit {0}

pub operation_is_done : OperationIsDone
operation_is_done s by mode4 op a to_come steps can are =
    let moves = op_moves Always s by mode4 op a can tt tt in
    let runs = leads_runs Always s (resting mode4 a to_come) (resting mode4 (does op a) (moves.after to_come)) (instructions s.meaning s.start by op) steps (moves.leads to_come) are in
    (moves.after to_come, runs.runs)

-- where one address alone is due, the needed area is its smallest block
alone : ℕ → ℕ → Bool
alone a x = x == a

held_alone : (m : Parameters) (a x : ℕ) (b : Block) → smallest m a ≡ Some b → is_needed m (alone a) x ≡ true → (b.start ≤ x) × (x < b.start + b.size)
unfolding alone
held_alone m a x b is needed =
    let c = needed_caused m (alone a) x needed in
    let cause : c.cause ≡ a = eqb-true c.cause a c.is_due in
    let both : Some c.block ≡ Some b = sym c.is ∙ ap (smallest m) cause ∙ is in
    let same : c.block ≡ b = cc in
    (subst (λ (d : Block). d.start ≤ x) same c.low, subst (λ (d : Block). x < d.start + d.size) same c.high)

pub smallest_agree : SmallestAgree
unfolding alone lies_in_needed
smallest_agree m start a b accepted inside near is =
    let by = strategy m start in
    let due : alone a a ≡ true = eq-eqb a a refl in
    let h = has_block m start by (alone a) a b refl accepted inside due near is in
    let e = can_erase m by (alone a) a h.kind h.block h.is in
    let t = there m a h.kind h.block accepted e.at in
    let s = small m a b accepted is in
    let least : b.size ≤ h.block.size = s.least h.kind h.block e.at in
    let first = held_alone m a h.block.start b is (all_at (is_needed m (alone a)) h.block.size h.block.start h.block.start e.needed (omega arith) (omega (arith, t.some))) in
    let end : h.block.start + h.block.size ≤ b.start + b.size = ends m a b h.block.start h.block.size t.some is e.needed in
    record { kind = h.kind; block = h.block; there = e.at; reached = e.reached; start = omega (arith, least, first.0, end); size = omega (arith, least, first.0, end) }
  where
    ends : (m : Parameters) (a : ℕ) (b : Block) (start size : ℕ) → 0 < size → smallest m a ≡ Some b
        → list_all (is_needed m (alone a)) (range_with_len start size) ≡ true → start + size ≤ b.start + b.size
    ends m a b start zero some is all = absurd (omega arith)
    ends m a b start (suc n) some is all = let last = held_alone m a (start + n) b is (all_at (is_needed m (alone a)) (suc n) start (start + n) all (omega arith) (omega arith)) in
        let upto = last.1 in omega (arith, upto)

-- a block of a kind, and a page
top : IsPowerOfTwo 24 24 (2 ^ 24)
top = record { exponent = 24; at_least = omega arith; at_most = omega arith; value = refl }

pub blocks_stay : BlocksStay
blocks_stay m b accepted legal small =
    let kind = legal_kind m b.kind b.start legal.legal in
    let has = accepted.kinds b.kind kind.erase kind.there in
    let size_so : Some kind.erase.size ≡ Some b.size = sym (ap (λ o. option_map (λ (e : Erase). e.size) o) kind.there) ∙ legal.size in
    let size : kind.erase.size ≡ b.size = cc in
    let parts = legal_parts m b.kind b.start legal.legal in
    let its = size_of m b.kind kind.erase kind.there in
    let aligned : b.start % b.size ≡ 0 = ap (λ n. b.start % n) (sym size ∙ sym its) ∙ parts.0 in
    let fits = power_small kind.erase.size has.size in
    let whole : 2 ^ 24 % b.size ≡ 0 = ap (λ n. 2 ^ 24 % n) (sym size) ∙ divides 8 24 24 24 kind.erase.size (2 ^ 24) has.size top fits in
    let some : 0 < b.size = subst (λ n. 0 < n) size (positive m kind.erase.size has.size) in
    ends_before b.start b.size some aligned whole small
  where
    positive : (m : Parameters) (n : ℕ) → IsPowerOfTwo 8 24 n → 0 < n
    positive m n p = subst (λ k. 0 < k) (sym p.value) (pow_pos p.exponent)

pub pages_stay : PagesStay
pages_stay m start accepted aligned small =
    let p = accepted.page in
    let most : m.page ≤ 2 ^ 24 = page_small m.page p in
    let whole : 2 ^ 24 % m.page ≡ 0 = divides 4 12 24 24 m.page (2 ^ 24) p top most in
    ends_before start m.page (some_page m accepted) aligned whole small
  where
    page_small : (n : ℕ) → IsPowerOfTwo 4 12 n → n ≤ 2 ^ 24
    page_small n p = subst (λ k. k ≤ 2 ^ 24) (sym p.value) (pow_mono {i = p.exponent} {j = 24} (omega (arith, p.at_most)))
