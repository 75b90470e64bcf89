-- The plan, and the steps of its units.
use Rattle.std.proofs.Common.{sym, ◌∙◌, ap, subst}
use Rattle.nor_base.specs.declared.meaning.Strategy.{Strategy}
use Rattle.nor_base.specs.Accepted.{IsAccepted}
use Rattle.nor_base.specs.Parameters.{Parameters}
use Rattle.nor_geometry.specs.Plan.{IsPlan, Refuses}
use Rattle.nor_steps.specs.Faults.{lifted_plan}
use Rattle.nor_steps.specs.Writing.{Writing}
use Rattle.nor_base.proofs.FaultLaws.{handed_on}
use Rattle.nor_steps.proofs.WindowLemmas.{no_plan}
use Rattle.nor_steps.proofs.writer.StepWriter.more.Goals as goal

pub returns-in_err-units-clause-stopped : goal.returns-in_err-units-clause-stopped
returns-in_err-units-clause-stopped g c =
    handed_on _ _ (lifted_plan c.in_err-units.field-0.0) c.from_residual.ensures.1 (no_plan c.args.self.now _ c.args.at c.args.have.now c.args.want.now c.in_err-units.field-0.0
    (subst (λ (m : Parameters). Refuses m c.args.self.now.streaming.by c.args.at c.args.have.now c.args.want.now c.in_err-units.field-0.0)
    (c.meaning-meaning.ensures ∙ ap (λ (w : Writing). w.streaming.meaning) c.self.view_is)
    (subst (λ (by : Strategy). Refuses c.meaning-meaning.result.now by c.args.at c.args.have.now c.args.want.now c.in_err-units.field-0.0)
    (c.strategy.ensures ∙ ap (λ (w : Writing). w.streaming.by) c.self.view_is) c.in_err-units.ensures.fault)))

pub write_units-requires : goal.write_units-requires
write_units-requires g c = record {
  planned =
      let meaning = c.meaning-meaning.ensures ∙ ap (λ (w : Writing). w.streaming.meaning) c.self.view_is in
      record {
        law = c.erased_blocks.ensures.blocks;
        accepted = subst IsAccepted meaning c.acceptance.ensures;
        window = c.requires.window;
        lengths = c.requires.lengths;
        plan =
            subst (IsPlan c.args.self.now.streaming.meaning c.args.self.now.streaming.by c.args.at c.args.have.now c.args.want.now) (sym c.deref.ensures.value)
            (subst (λ (m : Parameters). IsPlan m c.args.self.now.streaming.by c.args.at c.args.have.now c.args.want.now c.in_ok-units.units.items) meaning
            (subst (λ (by : Strategy). IsPlan c.meaning-meaning.result.now by c.args.at c.args.have.now c.args.want.now c.in_ok-units.units.items)
            (c.strategy.ensures ∙ ap (λ (w : Writing). w.streaming.by) c.self.view_is) c.in_ok-units.ensures.plan));
      };
}
