-- By the transactions that a run of the planned instructions shows.
use Rattle.nor_plan_laws.proofs.Runs.Exact.{planned_erases_needed}
use Rattle.nor_plan_laws.proofs.Runs.Once.{erases_once}
use Rattle.nor_plan_laws.proofs.Runs.Totals.{erases_counted, programs_counted, none_verifies}
use Rattle.nor_plan_laws.proofs.Rereads.Verified.{planned_is_verified}
use Rattle.nor_plan_laws.proofs.planned_runs.Goals as goal

pub returns-clause-exact : goal.returns-clause-exact
returns-clause-exact c = planned_erases_needed

pub returns-clause-once : goal.returns-clause-once
returns-clause-once c = erases_once

pub returns-clause-erases : goal.returns-clause-erases
returns-clause-erases c = erases_counted

pub returns-clause-programs : goal.returns-clause-programs
returns-clause-programs c = programs_counted

pub returns-clause-verified : goal.returns-clause-verified
returns-clause-verified c = planned_is_verified

pub returns-clause-unverified : goal.returns-clause-unverified
returns-clause-unverified c = none_verifies
