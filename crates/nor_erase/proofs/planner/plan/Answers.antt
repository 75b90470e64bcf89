-- The first address out of reach, the next byte that is due, the end of the window.
use Rattle.std.proofs.Common.{◌≡◌, ℕ, ◌+◌, ◌-◌, ◌/◌, ◌%◌, ◌<◌, ◌≤◌, List, ◌++◌, length, refl, sym, ◌∙◌, ap, subst, arith}
use Rattle.std.specs.Prelude.{flat_map}
use Rattle.nor_base.specs.declared.meaning.Strategy.{Strategy}
use Rattle.nor_base.specs.Parameters.{Parameters}
use Rattle.nor_base.specs.Blocks.{Block}
use Rattle.nor_base.specs.Units.{pages}
use Rattle.nor_geometry.specs.declared.unit.PlanUnit.{PlanUnit}
use Rattle.nor_erase.specs.Tiles.{page_if}
use Rattle.nor_geometry.proofs.PageLemmas.{ends_page}
use Rattle.nor_erase.proofs.PlanLemmas.{IsPlannedTo, edge, first_planned, next_is, planned_on, planned_over, planned_all, no_erase, unreachable}
use Rattle.nor_erase.proofs.planner.plan.Goals as goal
use Rattle.nor_erase.proofs.planner.plan.Goals.{then-block-high+in_ok-push_blocks+in_ok-push_pages, else-block-high}

-- at other names for the same places
moved : (m : Parameters) (by : Strategy) (at : ℕ) (have want : List ℕ) (low low' high high' : ℕ) (items items' : List PlanUnit) → low ≡ low' → high ≡ high' → items ≡ items'
    → IsPlannedTo m by at have want low high items → IsPlannedTo m by at have want low' high' items'
moved m by at have want low low' high high' items items' first second third p = rw (← first, ← second, ← third) p

pub first_beyond-requires-clause-edge : goal.first_beyond-requires-clause-edge
first_beyond-requires-clause-edge c = edge c.args.meaning.now c.args.strategy c.args.at (length c.args.have.now) c.acceptance.ensures c.requires.window

pub returns-in-Some-clause-fault : goal.returns-in-Some-clause-fault
returns-in-Some-clause-fault c =
    unreachable c.args.meaning.now c.args.strategy c.args.at c.args.have.now c.args.want.now c.in-Some.address c.requires.lengths c.in-Some.ensures

pub loop-address-init : goal.loop-address-init
loop-address-init c =
    subst (λ (items : List PlanUnit). IsPlannedTo c.args.meaning.now c.args.strategy c.args.at c.args.have.now c.args.want.now c.args.at c.args.at items) (sym c.new-units.ensures.items)
    (first_planned c.args.meaning.now c.args.strategy c.args.at c.args.have.now c.args.want.now c.acceptance.ensures c.requires.window)

pub returns-in-None-clause-fault : goal.returns-in-None-clause-fault
returns-in-None-clause-fault c =
    no_erase c.args.meaning.now c.args.strategy c.args.at c.args.have.now c.args.want.now c.loop-address.low c.loop-address.high c.in-Some-next_due.address c.loop-address.units.items
    c.acceptance.ensures c.requires.window c.requires.lengths c.in_default.ensures c.loop-address.invariant c.in-Some-next_due.ensures c.in-None.ensures

pub push_pages-requires-clause-high_page : goal.push_pages-requires-clause-high_page
push_pages-requires-clause-high_page c =
    let start : c.block.inside.start ≡ c.in-Some-smallest.block.start = ap (λ (b : Block). b.start) c.block.view_is in
    let next = next_is c.args.meaning.now c.args.strategy c.args.at c.args.have.now c.args.want.now c.loop-address.high c.in-Some-next_due.address c.in-Some-smallest.block
    c.acceptance.ensures c.requires.window c.in-Some-next_due.ensures c.in-Some-smallest.ensures in
    ap (λ n. n % c.args.meaning.now.page) start ∙ next.starts

pub overflow_add-high : goal.overflow_add-high
overflow_add-high c =
    let start : c.block.inside.start ≡ c.in-Some-smallest.block.start = ap (λ (b : Block). b.start) c.block.view_is in
    let size : c.block.inside.size ≡ c.in-Some-smallest.block.size = ap (λ (b : Block). b.size) c.block.view_is in
    let next = next_is c.args.meaning.now c.args.strategy c.args.at c.args.have.now c.args.want.now c.loop-address.high c.in-Some-next_due.address c.in-Some-smallest.block
    c.acceptance.ensures c.requires.window c.in-Some-next_due.ensures c.in-Some-smallest.ensures in
    omega (arith, next.fits, c.requires.window.inside, c.acceptance.ensures.size_high)

pub loop-address-preserved : goal.loop-address-preserved
loop-address-preserved c =
    let start : c.block.inside.start ≡ c.in-Some-smallest.block.start = ap (λ (b : Block). b.start) c.block.view_is in
    let same : c.block.inside.start + c.block.inside.size ≡ c.in-Some-smallest.block.start + c.in-Some-smallest.block.size =
    ap (λ (b : Block). b.start + b.size) c.block.view_is in
    elim c.if-block-high.branch [
      | then-block-high+in_ok-push_blocks+in_ok-push_pages w ↦
          let apart : c.loop-address.high < c.in-Some-smallest.block.start = omega (arith, w.if-block-high.true) in
          let now : c.if-block-high.units.items ≡ w.push_blocks.new.units.items
          ++ flat_map (page_if c.args.have.now c.args.want.now c.args.at c.args.meaning.now.page)
          (pages c.args.meaning.now.page c.loop-address.high ((c.in-Some-smallest.block.start - c.loop-address.high) / c.args.meaning.now.page)) =
          ap (λ v. v.items) w.units-is ∙ w.in_ok-push_pages.ensures
          ∙ ap (λ n. w.push_blocks.new.units.items
          ++ flat_map (page_if c.args.have.now c.args.want.now c.args.at c.args.meaning.now.page) (pages c.args.meaning.now.page c.loop-address.high ((n - c.loop-address.high) / c.args.meaning.now.page))) start in
          let next = planned_over c.args.meaning.now c.args.strategy c.args.at c.args.have.now c.args.want.now c.loop-address.low c.loop-address.high c.in-Some-next_due.address
          c.loop-address.units.items w.push_blocks.new.units.items c.if-block-high.units.items c.in-Some-smallest.block c.acceptance.ensures c.requires.window c.requires.lengths
          c.in_default.ensures c.loop-address.invariant c.in-Some-next_due.ensures c.in-Some-smallest.ensures apart w.in_ok-push_blocks.ensures now in
          moved c.args.meaning.now c.args.strategy c.args.at c.args.have.now c.args.want.now c.in-Some-smallest.block.start c.if-block-high.low
          (c.in-Some-smallest.block.start + c.in-Some-smallest.block.size) (c.block.inside.start + c.block.inside.size) c.if-block-high.units.items c.if-block-high.units.items
          (sym (w.low-is ∙ start)) (sym same) refl next
      | else-block-high w ↦
          let touches : c.in-Some-smallest.block.start ≤ c.loop-address.high = omega (arith, w.if-block-high.false) in
          let next = planned_on c.args.meaning.now c.args.strategy c.args.at c.args.have.now c.args.want.now c.loop-address.low c.loop-address.high c.in-Some-next_due.address
          c.loop-address.units.items c.in-Some-smallest.block c.acceptance.ensures c.requires.window c.requires.lengths
          c.in_default.ensures c.loop-address.invariant c.in-Some-next_due.ensures c.in-Some-smallest.ensures touches in
          moved c.args.meaning.now c.args.strategy c.args.at c.args.have.now c.args.want.now c.loop-address.low c.if-block-high.low
          (c.in-Some-smallest.block.start + c.in-Some-smallest.block.size) (c.block.inside.start + c.block.inside.size) c.loop-address.units.items c.if-block-high.units.items
          (sym w.low-is) (sym same) (sym (ap (λ v. v.items) w.units-is)) next
    ]

pub push_pages-requires-2-clause-high_page : goal.push_pages-requires-2-clause-high_page
push_pages-requires-2-clause-high_page c = ends_page c.args.meaning.now c.args.strategy c.args.at (length c.args.have.now) c.acceptance.ensures c.requires.window

pub returns-clause-plan : goal.returns-clause-plan
returns-clause-plan c =
    planned_all c.args.meaning.now c.args.strategy c.args.at c.args.have.now c.args.want.now c.loop-address.low c.loop-address.high c.loop-address.units.items
    c.push_blocks-2.new.units.items c.push_pages-2.new.units.items c.acceptance.ensures c.requires.window c.requires.lengths c.in_default.ensures c.loop-address.invariant
    c.in_default-next_due.ensures c.in_ok-push_blocks-2.ensures c.in_ok-push_pages-2.ensures
