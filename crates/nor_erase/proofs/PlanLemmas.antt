-- The plan of a window, whatever the rest of the chip holds.
use Rattle.std.proofs.Common.{◌≡◌, ◌⊎◌, ℕ, ◌+◌, ◌-◌, ◌*◌, ◌/◌, ◌%◌, ◌^◌, ◌<◌, ◌≤◌, ◌==◌, true, false, not, ◌&&◌, List, [], ◌++◌, length, map, None, refl, sym, ◌∙◌, ap, subst, arith, inl, inr, mul_comm}
use Rattle.std.specs.Prelude.{flat_map, slice_index}
use Rattle.std.proofs.lemmas.Bool.{cases_lt}
use Rattle.std.proofs.Math.Nat.{div-add-mod, mod-add-mod, pow-le-pow_right, mul-div_left, mod_self}
use Rattle.nor_base.specs.declared.meaning.Start.{Start}
use Rattle.nor_base.specs.declared.meaning.Strategy.{Strategy}
use Rattle.nor_base.specs.Parameters.{Parameters}
use Rattle.nor_base.specs.Accepted.{IsAccepted, IsPowerOfTwo}
use Rattle.nor_base.specs.Blocks.{Block, smallest}
use Rattle.nor_base.specs.Strategies.{strategy}
use Rattle.nor_base.specs.Effect.{may_program}
use Rattle.nor_base.specs.Need.{differs, is_due, is_needed, is_beyond, is_unreachable, lacks_erase, is_at_fault}
use Rattle.nor_base.specs.Units.{pages, units_of}
use Rattle.nor_base.proofs.RegionLaws.{legal_on_chip}
use Rattle.nor_geometry.specs.Legal.{IsReachedAt, IsSmallestAt}
use Rattle.nor_geometry.proofs.KindLemmas.{placed}
use Rattle.nor_geometry.proofs.WindowLemmas.{divides, multiple_of, steps, window_power, blocks_uncrossed}
use Rattle.nor_geometry.specs.declared.unit.PlanUnit.{PlanUnit}
use Rattle.nor_geometry.specs.declared.fault.PlanFault.TheVariants as fault
use Rattle.nor_erase.specs.Bytes.{IsFirstDue, NoneDue, IsFirstBeyond, NoneBeyond}
use Rattle.nor_geometry.specs.Plan.{plan_unit, IsWindow, HasPart, IsPlan, IsPlanOf, IsFault}
use Rattle.nor_erase.specs.Tiles.{AddsBlocks, IsTiling, page_if}
use Rattle.nor_erase.proofs.Tiling.{IsIn, IsRunTo, none_smallest}
use Rattle.nor_erase.proofs.Steps.{IsStep, step_of, step_on, step_over, first_run, last_gap, last_sound, no_fault, near_where_due}
use Rattle.nor_erase.proofs.Planning.{ArePlanned, none_planned, tiles_planned, gap_planned, part_differs, page_some}
use Rattle.nor_geometry.proofs.PageLemmas.{sum_whole, starts_page, ends_page}

pub is_in : (m : Parameters) (by : Strategy) (at count : ℕ) → IsAccepted m → IsWindow m by at count → IsIn m at (at + count)
is_in m by at count accepted w = record {
  accepted = accepted;
  low = λ b legal. blocks_uncrossed m w.size at b accepted w.its_size w.whole legal;
  high = λ b legal. elim w.ends [
    | inl full ↦
        let own : w.size % w.size ≡ 0 = whole_itself w.size in
        let border : (at + count) % w.size ≡ 0 = ap (λ n. (at + n) % w.size) full ∙ sum_whole at w.size w.size w.whole own in
        blocks_uncrossed m w.size (at + count) b accepted w.its_size border legal
    | inr last ↦ λ before. let fits = legal_on_chip m b accepted legal in omega (arith, last.1)
  ];
  inside = w.inside;
}
  where
    whole_itself : (n : ℕ) → n % n ≡ 0
    whole_itself n = mod_self n

pub edge : (m : Parameters) (by : Strategy) (at count : ℕ) → IsAccepted m → IsWindow m by at count → at < 2 ^ 24 → at + count ≤ 2 ^ 24
edge m by at count accepted w near =
    let p = window_power m w.size accepted w.its_size in
    let border : 2 ^ 24 % w.size ≡ 0 = divides 12 24 24 24 w.size (2 ^ 24) p (record { exponent = 24; at_least = omega arith; at_most = omega arith; value = refl }) (greatest w.size p) in
    let fits = steps w.size at (2 ^ 24) w.whole border near in
    elim w.ends [ inl full ↦ omega arith | inr last ↦ omega (arith, last.0) ]
  where
    greatest : (n : ℕ) → IsPowerOfTwo 12 24 n → n ≤ 2 ^ 24
    greatest n p = let up : 2 ^ p.exponent ≤ 2 ^ 24 = pow-le-pow_right (omega arith) p.at_most in omega (arith, p.value)

-- the bytes of a part say what is due in it
part_due : (m : Parameters) (content target have want : List ℕ) (at x : ℕ) → HasPart content have at → HasPart target want at → length have ≡ length want
    → at ≤ x → x < at + length have → is_due m content target x ≡ is_due m have want (x - at)
part_due m content target have want at x hp wp same from upto =
    let place : at + (x - at) ≡ x = omega arith in
    let old : slice_index content x ≡ slice_index have (x - at) = ap (slice_index content) (sym place) ∙ hp.same (x - at) (omega arith) in
    let new : slice_index target x ≡ slice_index want (x - at) = ap (slice_index target) (sym place) ∙ wp.same (x - at) (omega arith) in
    ap (λ n. not (n == slice_index target x) && not (may_program m n (slice_index target x))) old
    ∙ ap (λ n. not (slice_index have (x - at) == n) && not (may_program m (slice_index have (x - at)) n)) new

part_reach : (by : Strategy) (content target have want : List ℕ) (at x : ℕ) → HasPart content have at → HasPart target want at → length have ≡ length want
    → NoneBeyond by have want at → at ≤ x → x < at + length have → is_unreachable by content target x ≡ false
part_reach by content target have want at x hp wp same reach from upto =
    ap (λ b. is_beyond by x && b) (part_differs content target have want at x (x - at) hp wp same (omega arith) (omega arith)) ∙ reach x from upto

-- the units below `low` stand, and from there up to `high` all is needed
pub record IsPlannedTo (m : Parameters) (by : Strategy) (at : ℕ) (have want : List ℕ) (low high : ℕ) (items : List PlanUnit) : Type 0 where
  pub from : at ≤ low
  pub order : low ≤ high
  pub upto : high ≤ at + length have
  pub whole : high % m.page ≡ 0
  pub run : (start : Start) → by ≡ strategy m start → (content target : List ℕ) → HasPart content have at → HasPart target want at → IsRunTo m start content target at low high
  pub planned : (start : Start) → by ≡ strategy m start → (content target : List ℕ) → HasPart content have at → HasPart target want at
      → ArePlanned m (strategy m start) content target at low items

pub first_planned : (m : Parameters) (by : Strategy) (at : ℕ) (have want : List ℕ) → IsAccepted m → IsWindow m by at (length have)
    → IsPlannedTo m by at have want at at []
first_planned m by at have want accepted w = record {
  from = omega arith;
  order = omega arith;
  upto = omega arith;
  whole = starts_page m by at (length have) accepted w;
  run = λ start is content target hp wp. first_run m start content target at (at + length have) (is_in m by at (length have) accepted w);
  planned = λ start is content target hp wp. none_planned m (strategy m start) content target at;
}

-- what holds of the block round the next byte that is due, without a word on the rest of the chip
pub record IsNext (m : Parameters) (at : ℕ) (have : List ℕ) (high a : ℕ) (b : Block) : Type 0 where
  pub past : high < b.start + b.size
  pub fits : b.start + b.size ≤ at + length have
  pub starts : b.start % m.page ≡ 0
  pub ends : (b.start + b.size) % m.page ≡ 0

pub next_is : (m : Parameters) (by : Strategy) (at : ℕ) (have want : List ℕ) (high a : ℕ) (b : Block) → IsAccepted m → IsWindow m by at (length have)
    → IsFirstDue m (have, want) at high a → IsSmallestAt m by a b → IsNext m at have high a b
next_is m by at have want high a b accepted w f h =
    let here = h.listed.is.here in
    let p = placed m b accepted h.listed.is.legal in
    let kind = accepted.kinds b.kind p.erase p.there in
    let divided : p.erase.size % m.page ≡ 0 = divides 4 12 8 24 m.page p.erase.size accepted.page kind.size kind.whole_pages in
    let whole : b.size % m.page ≡ 0 = ap (λ n. n % m.page) p.size ∙ divided in
    let starts : b.start % m.page ≡ 0 = multiple_of b.start b.size m.page whole p.aligned in
    record {
      past = omega (arith, f.low, here.1);
      fits = (is_in m by at (length have) accepted w).high b h.listed.is.legal (omega (arith, f.high, here.0));
      starts = starts;
      ends = sum_whole b.start b.size m.page starts whole;
    }

-- the step, for one content and target
a_step : (m : Parameters) (by : Strategy) (at : ℕ) (have want : List ℕ) (low high a : ℕ) (items : List PlanUnit) (b : Block) → IsAccepted m → IsWindow m by at (length have)
    → length have ≡ length want → NoneBeyond by have want at → IsPlannedTo m by at have want low high items → IsFirstDue m (have, want) at high a → IsSmallestAt m by a b
    → (start : Start) → by ≡ strategy m start → (content target : List ℕ) → HasPart content have at → HasPart target want at
    → IsStep m start content target (at + length have) high a b
a_step m by at have want low high a items b accepted w same reach p f h start is content target hp wp =
    step_of m start content target at (at + length have) low high a b (is_in m by at (length have) accepted w) (p.run start is content target hp wp) f.low f.high
    (part_due m content target have want at a hp wp same (omega (arith, p.from, p.order, f.low)) f.high ∙ f.due)
    (λ x from upto. part_due m content target have want at x hp wp same (omega (arith, p.from, p.order)) (omega (arith, f.high)) ∙ f.before x from upto)
    (ap (λ s. is_unreachable s content target a) (sym is) ∙ part_reach by content target have want at a hp wp same reach (omega (arith, p.from, p.order, f.low)) f.high)
    (subst (λ (s : Strategy). IsSmallestAt m s a b) is h)

reach_of : (m : Parameters) (by : Strategy) (start : Start) (content target have want : List ℕ) (at : ℕ) → by ≡ strategy m start → HasPart content have at → HasPart target want at
    → length have ≡ length want → NoneBeyond by have want at → (x : ℕ) → at ≤ x → x < at + length have → is_unreachable (strategy m start) content target x ≡ false
reach_of m by start content target have want at is hp wp same reach x from upto =
    ap (λ s. is_unreachable s content target x) (sym is) ∙ part_reach by content target have want at x hp wp same reach from upto

pub planned_on : (m : Parameters) (by : Strategy) (at : ℕ) (have want : List ℕ) (low high a : ℕ) (items : List PlanUnit) (b : Block) → IsAccepted m → IsWindow m by at (length have)
    → length have ≡ length want → NoneBeyond by have want at → IsPlannedTo m by at have want low high items → IsFirstDue m (have, want) at high a → IsSmallestAt m by a b
    → b.start ≤ high → IsPlannedTo m by at have want low (b.start + b.size) items
planned_on m by at have want low high a items b accepted w same reach p f h touches =
    let n = next_is m by at have want high a b accepted w f h in
    record {
      from = p.from;
      order = omega (arith, p.order, n.past);
      upto = n.fits;
      whole = n.ends;
      run = λ start is content target hp wp.
          step_on m start content target at (at + length have) low high a b (is_in m by at (length have) accepted w) (p.run start is content target hp wp)
          (a_step m by at have want low high a items b accepted w same reach p f h start is content target hp wp)
          (reach_of m by start content target have want at is hp wp same reach) touches;
      planned = p.planned;
    }

-- tiles and the pages of a gap, for one content and target
stretch_planned : (m : Parameters) (by : Strategy) (at : ℕ) (have want : List ℕ) (low high next : ℕ) (items tiled now : List PlanUnit) → IsAccepted m
    → IsWindow m by at (length have) → length have ≡ length want → IsPlannedTo m by at have want low high items → AddsBlocks (IsTiling m by low high) items tiled
    → now ≡ tiled ++ flat_map (page_if have want at m.page) (pages m.page high ((next - high) / m.page)) → high ≤ next → next ≤ at + length have → next % m.page ≡ 0
    → (start : Start) → by ≡ strategy m start → (content target : List ℕ) → HasPart content have at → HasPart target want at
    → ((x : ℕ) → high ≤ x → x < next → is_needed m (is_due m content target) x ≡ false)
    → ((x : ℕ) → high ≤ x → x < next → is_due m content target x ≡ false)
    → (high ≡ at + length have) ⊎ (is_needed m (is_due m content target) high ≡ false)
    → ArePlanned m (strategy m start) content target at next now
stretch_planned m by at have want low high next items tiled now accepted w same p adds is_now order fits whole start is content target hp wp gap quiet stops =
    let run = p.run start is content target hp wp in
    let first = tiles_planned m start content target at (at + length have) high adds.blocks low items (is_in m by at (length have) accepted w) run p.from p.order p.upto stops
    (subst (λ (s : Strategy). IsTiling m s low high adds.blocks) is adds.tiling) (p.planned start is content target hp wp) in
    let first' : ArePlanned m (strategy m start) content target at high tiled = record { count = first.count; upto = first.upto; are = adds.added ∙ first.are } in
    let n_whole : (next - high) % m.page ≡ 0 = difference next high m.page order p.whole whole in
    let all : m.page * ((next - high) / m.page) + (next - high) % m.page ≡ next - high = div-add-mod (next - high) m.page in
    let turned : ((next - high) / m.page) * m.page ≡ m.page * ((next - high) / m.page) = mul_comm ((next - high) / m.page) m.page in
    let sum : high + ((next - high) / m.page) * m.page ≡ next = omega (arith, all, n_whole, turned, order) in
    let second = gap_planned m start content target have want at ((next - high) / m.page) high tiled accepted hp wp same (omega (arith, p.from, p.order)) (omega (arith, sum, fits))
    (λ y from upto. gap y from (omega (arith, sum))) (λ y from upto. quiet y from (omega (arith, sum))) first' in
    record { count = second.count; upto = second.upto ∙ sum; are = is_now ∙ second.are }
  where
    difference : (a b n : ℕ) → b ≤ a → b % n ≡ 0 → a % n ≡ 0 → (a - b) % n ≡ 0
    difference a b n order first second =
        let back : b + (a - b) ≡ a = omega arith in
        let none : 0 + (a - b) ≡ a - b = omega arith in
        sym (ap (λ x. x % n) none) ∙ ap (λ x. (x + (a - b)) % n) (sym first) ∙ mod-add-mod b n (a - b) ∙ ap (λ x. x % n) back ∙ second

pub planned_over : (m : Parameters) (by : Strategy) (at : ℕ) (have want : List ℕ) (low high a : ℕ) (items tiled now : List PlanUnit) (b : Block) → IsAccepted m
    → IsWindow m by at (length have) → length have ≡ length want → NoneBeyond by have want at → IsPlannedTo m by at have want low high items
    → IsFirstDue m (have, want) at high a → IsSmallestAt m by a b → high < b.start → AddsBlocks (IsTiling m by low high) items tiled
    → now ≡ tiled ++ flat_map (page_if have want at m.page) (pages m.page high ((b.start - high) / m.page))
    → IsPlannedTo m by at have want b.start (b.start + b.size) now
planned_over m by at have want low high a items tiled now b accepted w same reach p f h apart adds is_now =
    let n = next_is m by at have want high a b accepted w f h in
    record {
      from = omega (arith, p.from, p.order);
      order = omega arith;
      upto = n.fits;
      whole = n.ends;
      run = λ start is content target hp wp.
          step_over m start content target at (at + length have) low high a b (is_in m by at (length have) accepted w) (p.run start is content target hp wp)
          (a_step m by at have want low high a items b accepted w same reach p f h start is content target hp wp)
          (reach_of m by start content target have want at is hp wp same reach) apart;
      planned = λ start is content target hp wp.
          let t = a_step m by at have want low high a items b accepted w same reach p f h start is content target hp wp in
          stretch_planned m by at have want low high b.start items tiled now accepted w same p adds is_now (omega arith) (omega (arith, n.fits)) n.starts start is content target hp wp
          t.gap t.quiet (inr (t.gap high (omega arith) apart));
    }

-- the end of the window
pub planned_all : (m : Parameters) (by : Strategy) (at : ℕ) (have want : List ℕ) (low high : ℕ) (items tiled now : List PlanUnit) → IsAccepted m
    → IsWindow m by at (length have) → length have ≡ length want → NoneBeyond by have want at → IsPlannedTo m by at have want low high items
    → NoneDue m (have, want) at high → AddsBlocks (IsTiling m by low high) items tiled
    → now ≡ tiled ++ flat_map (page_if have want at m.page) (pages m.page high (((at + length have) - high) / m.page))
    → IsPlan m by at have want now
planned_all m by at have want low high items tiled now accepted w same reach p none adds is_now = λ content target hp wp.
    let start = w.start in
    let is = w.its_strategy in
    let run = p.run start is content target hp wp in
    let quiet : (x : ℕ) → high ≤ x → x < at + length have → is_due m content target x ≡ false =
    λ x from upto. part_due m content target have want at x hp wp same (omega (arith, p.from, p.order)) upto ∙ none x from upto in
    let gap = last_gap m start content target at (at + length have) low high (is_in m by at (length have) accepted w) run quiet in
    let planned = stretch_planned m by at have want low high (at + length have) items tiled now accepted w same p adds is_now p.upto (omega arith) (ends_page m by at (length have) accepted w)
    start is content target hp wp gap quiet
    (elim (cases_lt high (at + length have)) [ inl less ↦ inr (gap high (omega arith) less) | inr end ↦ inl (omega (arith, p.upto)) ]) in
    let sound = last_sound m start content target at (at + length have) low high run quiet (reach_of m by start content target have want at is hp wp same reach) in
    back m by at have content target now start is planned sound (page_some m accepted)
  where
    count_is : (at page n k : ℕ) → 0 < page → at + k * page ≡ at + n → n / page ≡ k
    count_is at page n k some sum = let whole : k * page ≡ n = omega arith in ap (λ x. x / page) (sym whole) ∙ mul-div_left k some

    back : (m : Parameters) (by : Strategy) (at : ℕ) (have content target : List ℕ) (now : List PlanUnit) (start : Start) → by ≡ strategy m start
        → ArePlanned m (strategy m start) content target at (at + length have) now
        → ((x : ℕ) → at ≤ x → x < at + length have → is_at_fault m (strategy m start) content target x ≡ false) → 0 < m.page
        → IsPlanOf m by at content target (length have) now
    back m by at have content target now start is planned sound some =
        let count : length have / m.page ≡ planned.count = count_is at m.page (length have) planned.count some planned.upto in
        record {
          units = planned.are ∙ ap (λ k. map plan_unit (units_of m (strategy m start) content target (pages m.page at k))) (sym count)
              ∙ ap (λ s. map plan_unit (units_of m s content target (pages m.page at (length have / m.page)))) (sym is);
          sound = λ x from upto. ap (λ s. is_at_fault m s content target x) is ∙ sound x from upto;
        }

lacks : (m : Parameters) (by : Strategy) (content target : List ℕ) (a : ℕ) → is_beyond by a ≡ false → is_due m content target a ≡ true → smallest m a ≡ None
    → lacks_erase m by content target a ≡ true
unfolding lacks_erase
lacks m by content target a near due none = rw (near, due, none) refl

pub no_erase : (m : Parameters) (by : Strategy) (at : ℕ) (have want : List ℕ) (low high a : ℕ) (items : List PlanUnit) → IsAccepted m → IsWindow m by at (length have)
    → length have ≡ length want → NoneBeyond by have want at → IsPlannedTo m by at have want low high items → IsFirstDue m (have, want) at high a
    → ((b : Block) → IsReachedAt m by a b → ⊥) → IsFault m by at have want (fault.NoErase a)
no_erase m by at have want low high a items accepted w same reach p f none = λ content target hp wp.
    let start = w.start in
    let is = w.its_strategy in
    let run = p.run start is content target hp wp in
    let reached = reach_of m by start content target have want at is hp wp same reach in
    let due : is_due m content target a ≡ true = part_due m content target have want at a hp wp same (omega (arith, p.from, p.order, f.low)) f.high ∙ f.due in
    let near = near_where_due m (strategy m start) content target a (reached a (omega (arith, p.from, p.order, f.low)) f.high) due in
    let no_block = none_smallest m start a accepted near (subst (λ (s : Strategy). (b : Block) → IsReachedAt m s a b → ⊥) is none) in (
      record {
        from = omega (arith, p.from, p.order, f.low);
        upto = f.high;
        none_below = λ x from upto.
            ap (λ s. is_at_fault m s content target x) is
            ∙ (elim (cases_lt x high) [
              | inl first ↦ run.sound x from first
              | inr later ↦
                  no_fault m (strategy m start) content target x (reached x from (omega (arith, f.high)))
                  (inl (part_due m content target have want at x hp wp same from (omega (arith, f.high)) ∙ f.before x later upto))
            ]);
      },
      ap (λ s. lacks_erase m s content target a) is ∙ lacks m (strategy m start) content target a near due no_block,
    )

beyond_sound : (m : Parameters) (by : Strategy) (content target : List ℕ) (x : ℕ) → is_beyond by x ≡ true → differs content target x ≡ false
    → is_at_fault m by content target x ≡ false
unfolding lacks_erase
beyond_sound m by content target x far same = rw (far, same) refl

pub unreachable : (m : Parameters) (by : Strategy) (at : ℕ) (have want : List ℕ) (a : ℕ) → length have ≡ length want → IsFirstBeyond by have want at a
    → IsFault m by at have want (fault.Unreachable a)
unreachable m by at have want a same f = λ content target hp wp.
    let apart : differs content target a ≡ true = part_differs content target have want at a (a - at) hp wp same (omega (arith, f.low)) (omega (arith, f.low, f.high)) ∙ f.apart in (
      record {
        from = f.low;
        upto = f.high;
        none_below = λ x from upto.
            beyond_sound m by content target x (f.far x from)
            (part_differs content target have want at x (x - at) hp wp same (omega arith) (omega (arith, f.high)) ∙ f.before x from upto);
      },
      ap (λ b. b && differs content target a) (f.far a f.low) ∙ apart,
    )
