-- The reads that went out, and then others.
use Rattle.std.proofs.Common.{◌-◌, subst, arith, Ok}
use Rattle.nor_base.proofs.FaultLaws.{answered}
use Rattle.nor_base.specs.Wire.{wire}
use Rattle.nor_serprog.specs.Follow.{Waits, TakesStatuses}
use Rattle.nor_serprog.proofs.WaitLemmas.{waits_after, reads_idle, reads_busy, reads_stop}
use Rattle.nor_serprog.proofs.follow.wait_on.Goals as goal

pub returns-in_err-take_statuses-clause-waits : goal.returns-in_err-take_statuses-clause-waits
returns-in_err-take_statuses-clause-waits g c held out =
    let why = c.in_err-take_statuses.field-0.0 in
    answered c.from_residual.result
    (λ r. Waits (wire held (g.R.ByteIn.ahead c.args.from.now)) (wire (g.W.ByteOut.held c.args.to.now) (g.R.ByteIn.ahead c.take_statuses.new.from)) r c.args.limits.now c.args.turns)
    why (reads_stop _ _ _ _ c.args.limits.now c.args.reads c.args.turns why c.requires.within c.requires.few out c.in_err-take_statuses.ensures.takes) c.from_residual.ensures.1

pub returns-then-branch-clause-waits : goal.returns-then-branch-clause-waits
returns-then-branch-clause-waits g c held out =
    let idle = subst (λ b. TakesStatuses (g.R.ByteIn.ahead c.args.from.now) (g.R.ByteIn.ahead c.take_statuses.new.from) (Ok b) c.args.reads) c.if-branch.true c.in_ok-take_statuses.ensures.takes in
    reads_idle _ _ _ _ c.args.reads c.args.turns c.requires.within out idle

pub returns-clause-waits : goal.returns-clause-waits
returns-clause-waits g c held out =
    let busy = subst (λ b. TakesStatuses (g.R.ByteIn.ahead c.args.from.now) (g.R.ByteIn.ahead c.take_statuses.new.from) (Ok b) c.args.reads) c.if-branch.false c.in_ok-take_statuses.ensures.takes in
    waits_after _ _ _ _ _ _ c.args.limits.now c.args.reads (c.args.turns - c.args.reads) c.args.turns c.wait.result (omega (arith, c.requires.within))
    (reads_busy _ _ _ _ c.args.reads out busy) c.wait.ensures.waits
