-- Each page with a planned program has one in each run that does the task.
use Rattle.nor_plan_laws.proofs.Fewest.Few.{no_script_programs_less, none_on_every_chip, one_serves_two}
use Rattle.nor_plan_laws.proofs.fewest_programs.Goals as goal

pub returns-clause-fewest : goal.returns-clause-fewest
returns-clause-fewest c = no_script_programs_less

pub returns-clause-every : goal.returns-clause-every
returns-clause-every c = none_on_every_chip

pub returns-clause-wraps : goal.returns-clause-wraps
returns-clause-wraps c = one_serves_two
