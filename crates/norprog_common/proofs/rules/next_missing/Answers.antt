-- The run goes as far as it can.
use Rattle.norprog_common.proofs.RulesLemmas.{past_run}
use Rattle.norprog_common.proofs.rules.next_missing.Goals as goal

pub returns-in-Some-run_from : goal.returns-in-Some-run_from
returns-in-Some-run_from c =
    rw c.from-in-Some-run_from.ensures
    (past_run c.args.image.now c.args.base c.args.start c.in-Some.from c.in-Some-run_from.at c.in-Some-run_from.run'.now c.in-Some-run_from.ensures
    c.if-at-from.true c.in-Some.ensures.1)
