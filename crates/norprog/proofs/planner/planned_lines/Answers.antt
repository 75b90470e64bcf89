-- What is so of each plan that is returned line by line.
use Rattle.norprog.proofs.Content.Plans.{cut_anywhere}
use Rattle.norprog.proofs.Promise.Few.{few_lines}
use Rattle.norprog.proofs.Promise.Plan.{plan_stops}
use Rattle.norprog.proofs.planner.planned_lines.Goals as goal

pub returns-clause-inputs : goal.returns-clause-inputs
returns-clause-inputs c = plan_stops

pub returns-clause-anywhere : goal.returns-clause-anywhere
returns-clause-anywhere c = cut_anywhere

pub returns-clause-few : goal.returns-clause-few
returns-clause-few c = few_lines
