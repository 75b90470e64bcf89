-- One unit after another.
use Rattle.std.proofs.Common.{sym, ◌∙◌, ap, subst, arith, ◌+◌, ◌-◌, rules}
use Rattle.nor_base.specs.Parameters.{Parameters}
use Rattle.nor_outline.specs.Parts.{IsPlanned}
use Rattle.nor_pages.specs.Runs.{IsUnit, unit_start}
use Rattle.nor_steps.specs.Units.{unit_size}
use Rattle.nor_steps.proofs.WindowLemmas.{unit_length}
use Rattle.nor_outline.proofs.StretchLemmas.{AreSofar, lies_here, sofar_none, next_here, all_lines}
use Rattle.nor_outline.proofs.window.units_lines.Goals as goal

pub loop-unit-init : goal.loop-unit-init
loop-unit-init c =
    subst (AreSofar c.args.meaning.now c.args.strategy c.args.at c.args.have.now c.args.want.now 0) (sym c.new-lines.ensures.items)
    (sofar_none c.args.meaning.now c.args.strategy c.args.at c.args.have.now c.args.want.now)

pub bounds-low-requires-clause-from : goal.bounds-low-requires-clause-from
bounds-low-requires-clause-from c =
    let p = c.requires.planned in
    let lies = lies_here c.args.meaning.now c.args.strategy c.args.at c.args.have.now c.args.want.now c.args.units.now c.loop-unit.unit-index c.unit-item.result p c.unit-item.is c.loop-unit-test.true in
    lies.low

pub bounds-low-requires-clause-small : goal.bounds-low-requires-clause-small
bounds-low-requires-clause-small c =
    let page = ap (λ (m : Parameters). m.page) c.meaning.view_is in
    let size = ap (λ n. unit_size n c.unit-item.result) page in
    let p = c.requires.planned in
    let lies = lies_here c.args.meaning.now c.args.strategy c.args.at c.args.have.now c.args.want.now c.args.units.now c.loop-unit.unit-index c.unit-item.result p c.unit-item.is c.loop-unit-test.true in
    omega (arith, size, lies.high, lies.fits)

pub slice_bounds-push_lines-end : goal.slice_bounds-push_lines-end
slice_bounds-push_lines-end c =
    let page = ap (λ (m : Parameters). m.page) c.meaning.view_is in
    let size = ap (λ n. unit_size n c.unit-item.result) page in
    let high = c.bounds-low.ensures.high ∙ ap (λ s. unit_start c.unit-item.result - c.args.at + s) size in
    let p = c.requires.planned in
    let lies = lies_here c.args.meaning.now c.args.strategy c.args.at c.args.have.now c.args.want.now c.args.units.now c.loop-unit.unit-index c.unit-item.result p c.unit-item.is c.loop-unit-test.true in
    omega (arith, lies.low, lies.high, high)

pub slice_bounds-push_lines-end-in-loop-unit : goal.slice_bounds-push_lines-end-in-loop-unit
slice_bounds-push_lines-end-in-loop-unit c =
    let page = ap (λ (m : Parameters). m.page) c.meaning.view_is in
    let size = ap (λ n. unit_size n c.unit-item.result) page in
    let high = c.bounds-low.ensures.high ∙ ap (λ s. unit_start c.unit-item.result - c.args.at + s) size in
    let p = c.requires.planned in
    let lies = lies_here c.args.meaning.now c.args.strategy c.args.at c.args.have.now c.args.want.now c.args.units.now c.loop-unit.unit-index c.unit-item.result p c.unit-item.is c.loop-unit-test.true in
    omega (arith, lies.low, lies.high, p.lengths, high)

pub push_lines-requires-clause-unit : goal.push_lines-requires-clause-unit
push_lines-requires-clause-unit c =
    let page = ap (λ (m : Parameters). m.page) c.meaning.view_is in
    let size = ap (λ n. unit_size n c.unit-item.result) page in
    let high = c.bounds-low.ensures.high ∙ ap (λ s. unit_start c.unit-item.result - c.args.at + s) size in
    let p = c.requires.planned in
    let lies = lies_here c.args.meaning.now c.args.strategy c.args.at c.args.have.now c.args.want.now c.args.units.now c.loop-unit.unit-index c.unit-item.result p c.unit-item.is c.loop-unit-test.true in
    let long = unit_length c.args.want.now c.bounds-low.result.0 c.bounds-low.result.1 _ _ _ c.bounds-low.ensures.low high (omega (arith, lies.low, lies.high, p.lengths)) in
    (search rules, subst (λ n. IsUnit c.args.meaning.now c.unit-item.result n) (sym long) lies.stretch)

pub push_lines-requires-clause-planned : goal.push_lines-requires-clause-planned
push_lines-requires-clause-planned c =
    let page = ap (λ (m : Parameters). m.page) c.meaning.view_is in
    let size = ap (λ n. unit_size n c.unit-item.result) page in
    let high = c.bounds-low.ensures.high ∙ ap (λ s. unit_start c.unit-item.result - c.args.at + s) size in
    let p = c.requires.planned in
    let lies = lies_here c.args.meaning.now c.args.strategy c.args.at c.args.have.now c.args.want.now c.args.units.now c.loop-unit.unit-index c.unit-item.result p c.unit-item.is c.loop-unit-test.true in
    let long = unit_length c.args.want.now c.bounds-low.result.0 c.bounds-low.result.1 _ _ _ c.bounds-low.ensures.low high (omega (arith, lies.low, lies.high, p.lengths)) in
    subst (λ n. IsPlanned c.args.meaning.now c.args.strategy c.unit-item.result n) (sym long) lies.planned

pub loop-unit-preserved : goal.loop-unit-preserved
loop-unit-preserved c =
    let page = ap (λ (m : Parameters). m.page) c.meaning.view_is in
    let size = ap (λ n. unit_size n c.unit-item.result) page in
    let high = c.bounds-low.ensures.high ∙ ap (λ s. unit_start c.unit-item.result - c.args.at + s) size in
    let its = c.in_ok-push_lines.ensures.lines in
    next_here c.args.meaning.now c.args.strategy c.args.at c.args.have.now c.args.want.now c.args.units.now c.loop-unit.unit-index c.unit-item.result _ _ _ its.0 _
    c.requires.planned c.loop-unit.invariant c.unit-item.is c.loop-unit-test.true c.bounds-low.ensures.low high its.1 its.2

pub returns-clause-lines : goal.returns-clause-lines
returns-clause-lines c =
    all_lines c.args.meaning.now c.args.strategy c.args.at c.args.have.now c.args.want.now c.args.units.now c.loop-unit.unit-index _ c.requires.planned
    c.loop-unit.invariant (omega (arith, c.loop-unit-test.false))
