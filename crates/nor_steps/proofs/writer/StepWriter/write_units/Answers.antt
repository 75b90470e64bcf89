-- One unit after another.
use Rattle.std.proofs.Common.{refl, sym, ◌∙◌, ap, subst, arith}
use Rattle.nor_base.specs.Parameters.{Parameters}
use Rattle.nor_base.proofs.FaultLaws.{handed_on}
use Rattle.nor_pages.specs.Runs.{IsUnit}
use Rattle.nor_steps.specs.Units.{unit_size}
use Rattle.nor_steps.specs.Writing.{Writing}
use Rattle.nor_steps.proofs.WindowLemmas.{IsSofar, lies_here, few_sofar, unit_length, sofar_none, next_here, cut_here, sofar_all}
use Rattle.nor_plan_laws.proofs.Units.Wider.{some_page}
use Rattle.nor_steps.proofs.writer.StepWriter.write_units.Goals as goal

pub loop-unit-init : goal.loop-unit-init
loop-unit-init g c = record {
  sofar =
      subst (IsSofar c.args.self.now c.args.self.now (g.W.InstrOut.held c.args.out.now) (g.W.InstrOut.held c.args.out.now) c.args.at c.args.have.now c.args.want.now 0)
      (sym c.none-told.ensures) (sofar_none c.args.self.now _ c.args.at c.args.have.now c.args.want.now);
  count = refl;
}

pub bounds-low-requires-clause-from : goal.bounds-low-requires-clause-from
bounds-low-requires-clause-from g c =
    let page = ap (λ (m : Parameters). m.page) (c.behind-self.view_is ∙ c.meaning.ensures ∙ ap (λ (w : Writing). w.streaming.meaning) c.self.view_is) in
    let p = c.requires.planned in
    let lies = lies_here c.args.self.now c.args.at c.args.have.now c.args.want.now c.args.units.now c.loop-unit.unit-index c.unit-item.result page p c.unit-item.is c.loop-unit-test.true in
    lies.low

pub bounds-low-requires-clause-small : goal.bounds-low-requires-clause-small
bounds-low-requires-clause-small g c =
    let page = ap (λ (m : Parameters). m.page) (c.behind-self.view_is ∙ c.meaning.ensures ∙ ap (λ (w : Writing). w.streaming.meaning) c.self.view_is) in
    let p = c.requires.planned in
    let lies = lies_here c.args.self.now c.args.at c.args.have.now c.args.want.now c.args.units.now c.loop-unit.unit-index c.unit-item.result page p c.unit-item.is c.loop-unit-test.true in
    omega (arith, lies.high, lies.fits)

pub slice_bounds-write_unit-end : goal.slice_bounds-write_unit-end
slice_bounds-write_unit-end g c =
    let page = ap (λ (m : Parameters). m.page) (c.behind-self.view_is ∙ c.meaning.ensures ∙ ap (λ (w : Writing). w.streaming.meaning) c.self.view_is) in
    let p = c.requires.planned in
    let lies = lies_here c.args.self.now c.args.at c.args.have.now c.args.want.now c.args.units.now c.loop-unit.unit-index c.unit-item.result page p c.unit-item.is c.loop-unit-test.true in
    omega (arith, lies.low, lies.high, c.bounds-low.ensures.high)

pub slice_bounds-write_unit-end-in-loop-unit : goal.slice_bounds-write_unit-end-in-loop-unit
slice_bounds-write_unit-end-in-loop-unit g c =
    let page = ap (λ (m : Parameters). m.page) (c.behind-self.view_is ∙ c.meaning.ensures ∙ ap (λ (w : Writing). w.streaming.meaning) c.self.view_is) in
    let p = c.requires.planned in
    let lies = lies_here c.args.self.now c.args.at c.args.have.now c.args.want.now c.args.units.now c.loop-unit.unit-index c.unit-item.result page p c.unit-item.is c.loop-unit-test.true in
    omega (arith, lies.low, lies.high, p.lengths, c.bounds-low.ensures.high)

pub write_unit-requires-clause-unit : goal.write_unit-requires-clause-unit
write_unit-requires-clause-unit g c =
    let page = ap (λ (m : Parameters). m.page) (c.behind-self.view_is ∙ c.meaning.ensures ∙ ap (λ (w : Writing). w.streaming.meaning) c.self.view_is) in
    let p = c.requires.planned in
    let lies = lies_here c.args.self.now c.args.at c.args.have.now c.args.want.now c.args.units.now c.loop-unit.unit-index c.unit-item.result page p c.unit-item.is c.loop-unit-test.true in
    let meaning = ap (λ (w : Writing). w.streaming.meaning) c.loop-unit.invariant.sofar.state in
    let long = unit_length c.args.want.now c.bounds-low.result.0 c.bounds-low.result.1 _ _ _ c.bounds-low.ensures.low c.bounds-low.ensures.high (omega (arith, lies.low, lies.high, p.lengths)) in
    subst (λ n. IsUnit c.loop-unit.self.streaming.meaning c.unit-item.result n) (sym long)
    (subst (λ (m : Parameters). IsUnit m c.unit-item.result (unit_size c.behind-self.inside.page c.unit-item.result)) (sym meaning) lies.stretch)

pub write_unit-requires-clause-few : goal.write_unit-requires-clause-few
write_unit-requires-clause-few g c =
    let page = ap (λ (m : Parameters). m.page) (c.behind-self.view_is ∙ c.meaning.ensures ∙ ap (λ (w : Writing). w.streaming.meaning) c.self.view_is) in
    let p = c.requires.planned in
    let lies = lies_here c.args.self.now c.args.at c.args.have.now c.args.want.now c.args.units.now c.loop-unit.unit-index c.unit-item.result page p c.unit-item.is c.loop-unit-test.true in
    let long = unit_length c.args.want.now c.bounds-low.result.0 c.bounds-low.result.1 _ _ _ c.bounds-low.ensures.low c.bounds-low.ensures.high (omega (arith, lies.low, lies.high, p.lengths)) in
    omega (arith, long, lies.few)

pub returns-in_err-one-clause-stopped : goal.returns-in_err-one-clause-stopped
returns-in_err-one-clause-stopped g c =
    let page = ap (λ (m : Parameters). m.page) (c.behind-self.view_is ∙ c.meaning.ensures ∙ ap (λ (w : Writing). w.streaming.meaning) c.self.view_is) in
    handed_on _ _ c.in_err-one.field-0.0 c.from_residual.ensures.1
    (cut_here c.args.self.now c.loop-unit.self c.write_unit.new.self _ _ _ c.args.at c.args.have.now c.args.want.now c.args.units.now c.loop-unit.unit-index c.unit-item.result _ _ _ _
    c.in_err-one.field-0.0 page c.requires.planned c.loop-unit.invariant.sofar c.unit-item.is c.loop-unit-test.true c.bounds-low.ensures.low c.bounds-low.ensures.high
    c.in_err-one.ensures.fails.1 c.in_err-one.ensures.written)

pub plus-told-requires-clause-steps : goal.plus-told-requires-clause-steps
plus-told-requires-clause-steps g c =
    let page = ap (λ (m : Parameters). m.page) (c.behind-self.view_is ∙ c.meaning.ensures ∙ ap (λ (w : Writing). w.streaming.meaning) c.self.view_is) in
    let p = c.requires.planned in
    let lies = lies_here c.args.self.now c.args.at c.args.have.now c.args.want.now c.args.units.now c.loop-unit.unit-index c.unit-item.result page p c.unit-item.is c.loop-unit-test.true in
    let few = few_sofar c.args.self.now c.loop-unit.self c.write_unit.new.self _ _ _ c.args.at c.args.have.now c.args.want.now c.args.units.now c.loop-unit.unit-index _ _ _ c.loop-unit.told c.in_ok-one.one p
    c.loop-unit.invariant.sofar c.loop-unit-test.true c.in_ok-one.ensures.written in
    omega (arith, few.0.steps, few.1.steps, few.2)

pub plus-told-requires-clause-erases : goal.plus-told-requires-clause-erases
plus-told-requires-clause-erases g c =
    let page = ap (λ (m : Parameters). m.page) (c.behind-self.view_is ∙ c.meaning.ensures ∙ ap (λ (w : Writing). w.streaming.meaning) c.self.view_is) in
    let p = c.requires.planned in
    let lies = lies_here c.args.self.now c.args.at c.args.have.now c.args.want.now c.args.units.now c.loop-unit.unit-index c.unit-item.result page p c.unit-item.is c.loop-unit-test.true in
    let few = few_sofar c.args.self.now c.loop-unit.self c.write_unit.new.self _ _ _ c.args.at c.args.have.now c.args.want.now c.args.units.now c.loop-unit.unit-index _ _ _ c.loop-unit.told c.in_ok-one.one p
    c.loop-unit.invariant.sofar c.loop-unit-test.true c.in_ok-one.ensures.written in
    omega (arith, few.0.erases, few.1.erases, few.2)

pub plus-told-requires-clause-erased : goal.plus-told-requires-clause-erased
plus-told-requires-clause-erased g c =
    let page = ap (λ (m : Parameters). m.page) (c.behind-self.view_is ∙ c.meaning.ensures ∙ ap (λ (w : Writing). w.streaming.meaning) c.self.view_is) in
    let p = c.requires.planned in
    let lies = lies_here c.args.self.now c.args.at c.args.have.now c.args.want.now c.args.units.now c.loop-unit.unit-index c.unit-item.result page p c.unit-item.is c.loop-unit-test.true in
    let few = few_sofar c.args.self.now c.loop-unit.self c.write_unit.new.self _ _ _ c.args.at c.args.have.now c.args.want.now c.args.units.now c.loop-unit.unit-index _ _ _ c.loop-unit.told c.in_ok-one.one p
    c.loop-unit.invariant.sofar c.loop-unit-test.true c.in_ok-one.ensures.written in
    omega (arith, few.0.erased, few.1.erased, few.2)

pub plus-told-requires-clause-programs : goal.plus-told-requires-clause-programs
plus-told-requires-clause-programs g c =
    let page = ap (λ (m : Parameters). m.page) (c.behind-self.view_is ∙ c.meaning.ensures ∙ ap (λ (w : Writing). w.streaming.meaning) c.self.view_is) in
    let p = c.requires.planned in
    let lies = lies_here c.args.self.now c.args.at c.args.have.now c.args.want.now c.args.units.now c.loop-unit.unit-index c.unit-item.result page p c.unit-item.is c.loop-unit-test.true in
    let few = few_sofar c.args.self.now c.loop-unit.self c.write_unit.new.self _ _ _ c.args.at c.args.have.now c.args.want.now c.args.units.now c.loop-unit.unit-index _ _ _ c.loop-unit.told c.in_ok-one.one p
    c.loop-unit.invariant.sofar c.loop-unit-test.true c.in_ok-one.ensures.written in
    omega (arith, few.0.programs, few.1.programs, few.2)

pub loop-unit-preserved : goal.loop-unit-preserved
loop-unit-preserved g c =
    let page = ap (λ (m : Parameters). m.page) (c.behind-self.view_is ∙ c.meaning.ensures ∙ ap (λ (w : Writing). w.streaming.meaning) c.self.view_is) in
    record {
      sofar =
          next_here c.args.self.now c.loop-unit.self c.write_unit.new.self _ _ _ c.args.at c.args.have.now c.args.want.now c.args.units.now c.loop-unit.unit-index c.unit-item.result _ _ _
          c.loop-unit.told c.in_ok-one.one c.plus-told.result page c.requires.planned c.loop-unit.invariant.sofar c.unit-item.is c.loop-unit-test.true c.bounds-low.ensures.low
          c.bounds-low.ensures.high c.in_ok-one.ensures.written c.plus-told.ensures;
      count = c.in_ok-one.ensures.fails.0 ∙ c.loop-unit.invariant.count;
    }

pub returns-clause-written : goal.returns-clause-written
returns-clause-written g c =
    sofar_all c.args.self.now c.loop-unit.self _ _ c.args.at c.args.have.now c.args.want.now c.args.units.now c.loop-unit.unit-index c.loop-unit.told
    (some_page c.args.self.now.streaming.meaning c.requires.planned.accepted) c.requires.planned c.loop-unit.invariant.sofar (omega (arith, c.loop-unit-test.false)) (omega (arith, c.loop-unit.auto.unit-index-end))
