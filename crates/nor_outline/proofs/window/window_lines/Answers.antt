-- The plan, and the lines of its units.
use Rattle.std.proofs.Common.{sym, subst}
use Rattle.nor_geometry.specs.Plan.{IsPlan}
use Rattle.nor_outline.proofs.StretchLemmas.{no_plan}
use Rattle.nor_steps.specs.Faults.{lifted_plan}
use Rattle.nor_base.proofs.FaultLaws.{handed_on}
use Rattle.nor_outline.proofs.window.window_lines.Goals as goal

pub returns-in_err-units-clause-stopped : goal.returns-in_err-units-clause-stopped
returns-in_err-units-clause-stopped c =
    handed_on _ _ (lifted_plan c.in_err-units.field-0.0) c.from_residual.ensures.1
    (no_plan c.args.meaning.now c.args.strategy c.args.at c.args.have.now c.args.want.now c.in_err-units.field-0.0 c.in_err-units.ensures.fault)

pub units_lines-requires : goal.units_lines-requires
units_lines-requires c = record {
  planned = record {
    law = c.erased_blocks.ensures.blocks;
    accepted = c.acceptance.ensures;
    window = c.requires.window;
    lengths = c.requires.lengths;
    plan = subst (IsPlan c.args.meaning.now c.args.strategy c.args.at c.args.have.now c.args.want.now) (sym c.deref.ensures.value) c.in_ok-units.ensures.plan;
  };
}
