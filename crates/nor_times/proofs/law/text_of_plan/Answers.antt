-- The text of a plan is that of its lines.
use Rattle.nor_base.specs.Planned.{planned_units}
use Rattle.nor_base.specs.Strategies.{strategy}
use Rattle.nor_outline.proofs.PlanText.{units_lines}
use Rattle.nor_times.proofs.law.text_of_plan.Goals as goal

pub returns : goal.returns
returns c m start have want = units_lines m (strategy m start) have want (planned_units m start have want)
