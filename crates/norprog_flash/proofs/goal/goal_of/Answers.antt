-- The job's target is that of the inputs.
use Rattle.std.proofs.Common.{◌≡◌, ◌∙◌, length, arith}
use Rattle.norprog_flash.proofs.GoalLemmas.{goal_is, written}
use Rattle.norprog_flash.proofs.goal.goal_of.Goals as goal

pub returns-clause-goal : goal.returns-clause-goal
returns-clause-goal c =
    let new = c.fill_target.new.want in
    let long : c.in_ok-bytes.bytes.len ≡ length new = omega (arith, c.fill_target.auto.want, c.as_mut_slice.ensures.len) in
    goal_is c.args.inputs.now c.args.old.now c.in_ok-job.job c.in_ok-job.ensures.job _
    (written new c.in_ok-bytes.bytes.items c.in_ok-bytes.bytes.len long ∙ c.fill_target.ensures) c.count-given.ensures
    c.count_ignored-ignored.ensures.count c.count_ignored-ignored.ensures.small
