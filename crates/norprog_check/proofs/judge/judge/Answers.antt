-- What is found of the steps of a text that the device had ahead.
use Rattle.norprog_check.proofs.CheckLemmas.{judged_of}
use Rattle.norprog_check.proofs.judge.judge.Goals as goal

pub returns-clause-judged : goal.returns-clause-judged
returns-clause-judged g c =
    let told = c.in_ok-said.ensures.told in (
      told.0,
      told.1,
      judged_of c.args.job.now c.args.have.items c.args.want.now c.new-checker.result c.in_ok-said.said c.finding_of.result
          (c.new-checker.ensures.worst c.args.want.now) (λ steps. c.new-checker.ensures.yes c.args.want.now steps c.requires.sizes.1)
          (c.new-checker.ensures.shown c.args.want.now) (c.new-checker.ensures.counted c.args.want.now) c.finding_of.ensures.verdict
          c.finding_of.ensures.chip told.0 told.2,
    )
