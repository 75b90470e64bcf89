-- The units up to an address, and one stretch more.
use Rattle.std.proofs.Common.{◌≡◌, ℕ, zero, suc, ◌+◌, ◌-◌, ◌*◌, ◌/◌, ◌%◌, ◌<◌, ◌≤◌, ◌==◌, false, not, if◌then◌else◌, List, [], ◌∷◌, ◌++◌, length, map, Option, Some, None, refl, sym, ◌∙◌, ap, subst, arith, inl, inr, append_assoc, append-nil, eq-eqb, mul_comm}
use Rattle.std.specs.Prelude.{flat_map, slice_index}
use Rattle.std.specs.List.{list_any, range_with_len}
use Rattle.std.proofs.lemmas.Bool.{cases_lt, both_ways}
use Rattle.std.proofs.lemmas.List.{map-append}
use Rattle.std.proofs.lemmas.Grind.{flat_map-append}
use Rattle.std.proofs.Math.Nat.{div-add-mod, mul-suc}
use Rattle.std.proofs.lemmas.Nat.{pow_pos}
use Rattle.nor_base.specs.declared.meaning.Start.{Start}
use Rattle.nor_base.specs.declared.meaning.Strategy.{Strategy}
use Rattle.nor_base.specs.Parameters.{Parameters}
use Rattle.nor_base.specs.Accepted.{IsAccepted}
use Rattle.nor_base.specs.Blocks.{Block, IsLegalBlock}
use Rattle.nor_base.specs.Strategies.{strategy}
use Rattle.nor_base.specs.Need.{differs, is_due, is_needed, erased_at, levelled}
use Rattle.nor_base.specs.Units.{WorkUnit, pages, block_unit, unit_by, units_over, units_of}
use Rattle.nor_geometry.proofs.KindLemmas.{placed}
use Rattle.nor_geometry.proofs.WindowLemmas.{divides}
use Rattle.nor_geometry.specs.declared.unit.PlanUnit.{PlanUnit}
use Rattle.nor_geometry.specs.declared.unit.PlanUnit.TheVariants as unit
use Rattle.nor_geometry.specs.Plan.{plan_unit, HasPart}
use Rattle.nor_erase.specs.Tiles.{IsTiling, page_differs, page_if}
use Rattle.nor_plan_laws.proofs.Erased.Erasing.{erased_all}
use Rattle.nor_plan_laws.proofs.Erased.Needed.{erased_needed}
use Rattle.nor_erase.proofs.Tiling.{IsIn, IsRunTo, Stops, first_erased, tile_is, tile_rest}
use Rattle.nor_erase.proofs.PageUnits.{page_alone, same_any, unit_if}

-- the units that start with a page, without their programs
abbrev unit_at : Parameters → Strategy → List ℕ → List ℕ → ℕ → List WorkUnit
unit_at m by have want start =
    unit_by m (levelled m by (is_due m have want) have) want start (erased_at m by (is_due m have want) start)

-- they are the units of the whole pages from one address up to another
pub record ArePlanned (m : Parameters) (by : Strategy) (have want : List ℕ) (at low : ℕ) (items : List PlanUnit) : Type 0 where
  pub count : ℕ
  pub upto : at + count * m.page ≡ low
  pub are : items ≡ map plan_unit (units_of m by have want (pages m.page at count))

pub none_planned : (m : Parameters) (by : Strategy) (have want : List ℕ) (at : ℕ) → ArePlanned m by have want at at []
unfolding units_over
none_planned m by have want at = record { count = 0; upto = omega arith; are = refl }

pages_more : (page n at : ℕ) → pages page at (suc n) ≡ pages page at n ++ (at + n * page) ∷ []
pages_more page zero at = let same : at ≡ at + 0 * page = omega arith in ap (λ a. a ∷ []) same
pages_more page (suc n) at =
    let same : (at + page) + n * page ≡ at + suc n * page = omega arith in
    ap (λ ps. at ∷ ps) (pages_more page n (at + page)) ∙ ap (λ a. at ∷ (pages page (at + page) n ++ a ∷ [])) same

pub one_page : (m : Parameters) (by : Strategy) (have want : List ℕ) (at low : ℕ) (items us : List PlanUnit) → ArePlanned m by have want at low items
    → map plan_unit (unit_at m by have want low) ≡ us → ArePlanned m by have want at (low + m.page) (items ++ us)
unfolding units_over
one_page m by have want at low items us p is = record {
  count = suc p.count;
  upto = omega (arith, p.upto);
  are = sym (
      ap (λ ps. map plan_unit (flat_map (unit_at m by have want) ps)) (pages_more m.page p.count at)
      ∙ ap (map plan_unit) (flat_map-append (unit_at m by have want) (pages m.page at p.count) ((at + p.count * m.page) ∷ []))
      ∙ map-append plan_unit (flat_map (unit_at m by have want) (pages m.page at p.count)) (flat_map (unit_at m by have want) ((at + p.count * m.page) ∷ []))
      ∙ ap (λ xs. xs ++ map plan_unit (flat_map (unit_at m by have want) ((at + p.count * m.page) ∷ []))) (sym p.are)
      ∙ ap (λ x. items ++ map plan_unit (flat_map (unit_at m by have want) (x ∷ []))) p.upto
      ∙ ap (λ xs. items ++ map plan_unit xs) (append-nil (unit_at m by have want low))
      ∙ ap (λ xs. items ++ xs) is
      );
}

-- pages in which no unit starts
through : (m : Parameters) (by : Strategy) (have want : List ℕ) (at : ℕ) (items : List PlanUnit) (k x : ℕ) → ArePlanned m by have want at x items
    → ((y : ℕ) → x ≤ y → y < x + k * m.page → (j : ℕ) → y ≡ x + j * m.page → unit_at m by have want y ≡ []) → 0 < m.page → ArePlanned m by have want at (x + k * m.page) items
through m by have want at items zero x p none some = let same : x ≡ x + 0 * m.page = omega arith in moved m by have want at items x (x + 0 * m.page) same p
  where
    moved : (m : Parameters) (by : Strategy) (have want : List ℕ) (at : ℕ) (items : List PlanUnit) (x y : ℕ) → x ≡ y → ArePlanned m by have want at x items → ArePlanned m by have want at y items
    moved m by have want at items x y same p = record { count = p.count; upto = p.upto ∙ same; are = p.are }
through m by have want at items (suc k) x p none some =
    let here : unit_at m by have want x ≡ [] = none x (omega arith) (omega arith) 0 (omega arith) in
    let next = one_page m by have want at x items [] p (ap (map plan_unit) here) in
    let rest = through m by have want at (items ++ []) k (x + m.page) next (λ y from upto j is. none y (omega arith) (omega arith) (suc j) (omega arith)) some in
    let sum : (x + m.page) + k * m.page ≡ x + suc k * m.page = omega arith in
    record { count = rest.count; upto = rest.upto ∙ sum; are = sym (append-nil items) ∙ rest.are }

no_unit : (m : Parameters) (by : Strategy) (have want : List ℕ) (y : ℕ) (b : Block) → erased_at m by (is_due m have want) y ≡ Some b → b.start < y → unit_at m by have want y ≡ []
no_unit m by have want y b is after =
    ap (unit_by m (levelled m by (is_due m have want) have) want y) is
    ∙ ap (λ t. if t then block_unit m (levelled m by (is_due m have want) have) want b ∷ [] else []) (apart b.start y after)
  where
    apart : (a y : ℕ) → a < y → a == y ≡ false
    apart a y less = grind arith

pub page_some : (m : Parameters) → IsAccepted m → 0 < m.page
page_some m accepted = subst (λ n. 0 < n) (sym accepted.page.value) (pow_pos accepted.page.exponent)

not_zero : (page k n : ℕ) → 0 < n → page * k ≡ n → 0 < k
not_zero page zero n some is = let none : page * 0 ≡ 0 = omega arith in absurd (omega arith)
not_zero page (suc k) n some is = omega arith

pages_sum : (low page j k n : ℕ) → suc j ≡ k → page * k ≡ n → (low + page) + j * page ≡ low + n
pages_sum low page j k n next is =
    let times : page * suc j ≡ page * k = ap (λ x. page * x) next in
    let unrolled : page * suc j ≡ page * j + page = mul-suc page j in
    let turned : page * j ≡ j * page = mul_comm page j in
    omega arith

-- an erased block is the only unit that starts in it
pub block_planned : (m : Parameters) (by : Strategy) (have want : List ℕ) (at low : ℕ) (items : List PlanUnit) (b : Block) → IsAccepted m → IsLegalBlock m b
    → ArePlanned m by have want at low items → b.start ≡ low → erased_at m by (is_due m have want) low ≡ Some b
    → ArePlanned m by have want at (low + b.size) (items ++ unit.Block b ∷ [])
block_planned m by have want at low items b accepted legal p starts erased =
    let q = placed m b accepted legal in
    let kind = accepted.kinds b.kind q.erase q.there in
    let some = page_some m accepted in
    let divided : q.erase.size % m.page ≡ 0 = divides 4 12 8 24 m.page q.erase.size accepted.page kind.size kind.whole_pages in
    let whole : b.size % m.page ≡ 0 = ap (λ n. n % m.page) q.size ∙ divided in
    let all : m.page * (b.size / m.page) + b.size % m.page ≡ b.size = div-add-mod b.size m.page in
    let filled : 0 < b.size / m.page = not_zero m.page (b.size / m.page) b.size q.some (omega (arith, all, whole)) in
    let k : suc (b.size / m.page - 1) ≡ b.size / m.page = omega arith in
    let sum : (low + m.page) + (b.size / m.page - 1) * m.page ≡ low + b.size = pages_sum low m.page (b.size / m.page - 1) (b.size / m.page) b.size k (omega (arith, all, whole)) in
    let first : map plan_unit (unit_at m by have want low) ≡ unit.Block b ∷ [] =
    ap (λ o. map plan_unit (unit_by m (levelled m by (is_due m have want) have) want low o)) erased
    ∙ ap (λ t. map plan_unit (if t then block_unit m (levelled m by (is_due m have want) have) want b ∷ [] else [])) (eq-eqb b.start low starts) in
    let next = one_page m by have want at low items (unit.Block b ∷ []) p first in
    let last = through m by have want at (items ++ unit.Block b ∷ []) (b.size / m.page - 1) (low + m.page) next
    (λ y from upto j is.
    no_unit m by have want y b (erased_all m by (is_due m have want) low y b accepted erased (omega arith) (omega (arith, sum, starts))) (omega arith))
    some in
    record { count = last.count; upto = last.upto ∙ sum; are = last.are }

-- the tiles of a run
pub tiles_planned : (m : Parameters) (start : Start) (have want : List ℕ) (at end high : ℕ) (bs : List Block) (low : ℕ) (items : List PlanUnit) → IsIn m at end
    → IsRunTo m start have want at low high → at ≤ low → low ≤ high → high ≤ end → Stops m (is_due m have want) high end
    → IsTiling m (strategy m start) low high bs → ArePlanned m (strategy m start) have want at low items
    → ArePlanned m (strategy m start) have want at high (items ++ map unit.Block bs)
tiles_planned m start have want at end high [] low items w r from upto inside stops tiling p = elim (cases_lt low high) [
  | inl some ↦
      let e = first_erased m start have want at end low high w r from some inside stops in
      absurd (tiling e.0 e.1.is.reached e.1.starts e.1.fits)
  | inr last ↦
      let same : low ≡ high = omega arith in
      record { count = p.count; upto = p.upto ∙ same; are = append-nil items ∙ p.are }
]
tiles_planned m start have want at end high (b ∷ bs) low items w r from upto inside stops tiling p =
    let largest = tiling.0 in
    let is = placed m b w.accepted largest.listed.is.legal in
    let some : low < high = omega (arith, largest.fits, largest.start, is.some) in
    let erased = tile_is m start have want at end low high b w r from some inside stops largest in
    let rest = tile_rest m start have want at low high b w.accepted r largest.start erased in
    let more = block_planned m (strategy m start) have want at low items b w.accepted largest.listed.is.legal p largest.start erased in
    let all = tiles_planned m start have want at end high bs (low + b.size) (items ++ unit.Block b ∷ []) w rest (omega arith) (omega (arith, largest.fits, largest.start)) inside stops tiling.1 more in
    record { count = all.count; upto = all.upto; are = sym (append_assoc items (unit.Block b ∷ []) (map unit.Block bs)) ∙ all.are }

none_erased : (m : Parameters) (by : Strategy) (have want : List ℕ) (y : ℕ) → IsAccepted m → is_needed m (is_due m have want) y ≡ false
    → erased_at m by (is_due m have want) y ≡ None
none_erased m by have want y accepted none = by_found (erased_at m by (is_due m have want) y) refl
  where
    by_found : (o : Option Block) → erased_at m by (is_due m have want) y ≡ o → erased_at m by (is_due m have want) y ≡ None
    by_found None is = is
    by_found (Some b) is = absurd (both_ways (is_needed m (is_due m have want) y) none (erased_needed m by (is_due m have want) y b accepted is))

-- the bytes of a part say what differs in it
pub part_differs : (content target have want : List ℕ) (at x i : ℕ) → HasPart content have at → HasPart target want at → length have ≡ length want
    → at + i ≡ x → i < length have → differs content target x ≡ differs have want i
part_differs content target have want at x i hp wp same place inside =
    ap (differs content target) (sym place)
    ∙ ap (λ n. not (n == slice_index target (at + i))) (hp.same i inside)
    ∙ ap (λ n. not (slice_index have i == n)) (wp.same i (omega arith))

-- the pages of a gap
pub gap_planned : (m : Parameters) (start : Start) (content target have want : List ℕ) (at : ℕ) (k x : ℕ) (items : List PlanUnit) → IsAccepted m
    → HasPart content have at → HasPart target want at → length have ≡ length want → at ≤ x → x + k * m.page ≤ at + length have
    → ((y : ℕ) → x ≤ y → y < x + k * m.page → is_needed m (is_due m content target) y ≡ false)
    → ((y : ℕ) → x ≤ y → y < x + k * m.page → is_due m content target y ≡ false)
    → ArePlanned m (strategy m start) content target at x items
    → ArePlanned m (strategy m start) content target at (x + k * m.page) (items ++ flat_map (page_if have want at m.page) (pages m.page x k))
gap_planned m start content target have want at zero x items accepted hp wp same from inside gap quiet p =
    let here : x ≡ x + 0 * m.page = omega arith in
    record { count = p.count; upto = p.upto ∙ here; are = append-nil items ∙ p.are }
gap_planned m start content target have want at (suc k) x items accepted hp wp same from inside gap quiet p =
    let some = page_some m accepted in
    let sum : (x + m.page) + k * m.page ≡ x + suc k * m.page = omega arith in
    let none : (y : ℕ) → x ≤ y → y < x + m.page → erased_at m (strategy m start) (is_due m content target) y ≡ None =
    λ y low high. none_erased m (strategy m start) content target y accepted (gap y low (omega arith)) in
    let alone = page_alone m (strategy m start) (is_due m content target) content target x (omega (arith, hp.fits)) none (λ y low high. quiet y low (omega arith)) in
    let told : list_any (differs content target) (range_with_len x m.page) ≡ page_differs have want at m.page x =
    same_any (differs content target) (differs have want) m.page x (x - at) (λ i less.
    part_differs content target have want at (x + i) (x - at + i) hp wp same (omega arith) (omega arith)) in
    let here : map plan_unit (unit_at m (strategy m start) content target x) ≡ page_if have want at m.page x =
    ap (λ o. map plan_unit (unit_by m (levelled m (strategy m start) (is_due m content target) content) target x o)) (none x (omega arith) (omega arith))
    ∙ alone ∙ ap (λ t. unit_if t x) told in
    let next = one_page m (strategy m start) content target at x items (page_if have want at m.page x) p here in
    let rest = gap_planned m start content target have want at k (x + m.page) (items ++ page_if have want at m.page x) accepted hp wp same (omega arith) (omega arith)
    (λ y low high. gap y (omega arith) (omega arith)) (λ y low high. quiet y (omega arith) (omega arith)) next in
    record {
      count = rest.count;
      upto = rest.upto ∙ sum;
      are = sym (append_assoc items (page_if have want at m.page x) (flat_map (page_if have want at m.page) (pages m.page (x + m.page) k))) ∙ rest.are;
    }
