-- Status by status.
use Rattle.std.proofs.Common.{◌≡◌, ◌%◌, ◌==◌, Bool, true, false, get_or, refl, length, ◌∙◌, arith, rules}
use Rattle.nor_base.proofs.FaultLaws.{answered}
use Rattle.nor_serprog.specs.declared.fault.Reason.TheVariants.{Exchange}
use Rattle.nor_serprog.specs.Follow.{TakesStatuses}
use Rattle.nor_serprog.proofs.WaitLemmas.{next_status, status_fails}
use Rattle.nor_serprog.proofs.follow.take_statuses.Goals as goal
use Rattle.nor_serprog.proofs.follow.take_statuses.Goals.{else-was_idle-via-then-was_idle+else-not-is_idle, else-was_idle-via-else-was_idle}

pub returns-in_err-told-clause-takes : goal.returns-in_err-told-clause-takes
returns-in_err-told-clause-takes g c =
    let one : length c.told.new.got ≡ 1 = omega (arith, c.loop.invariant.one) in
    let why = c.in_err-told.field-0.0 in
    answered c.from_residual.result (λ r. TakesStatuses (g.R.ByteIn.ahead c.args.from.now) (g.R.ByteIn.ahead c.told.new.from) r c.args.reads)
    (Exchange why) (status_fails _ _ _ c.loop.was_idle c.loop.counter c.args.reads c.told.new.got why one (omega (arith, c.loop-test.true)) c.loop.invariant.taken
    c.in_err-told.ensures.answers) c.from_residual.ensures.1

pub loop-preserved : goal.loop-preserved
loop-preserved g c =
    let one : length c.told.new.got ≡ 1 = omega (arith, c.loop.invariant.one) in
    let is : Bool = get_or c.told.new.got 0 0 % 2 == 0 in
    let stays : c.loop.was_idle ≡ true → is ≡ true =
    elim c.else-was_idle.branch [
      | else-was_idle-via-then-was_idle+else-not-is_idle w ↦ λ h. search rules
      | else-was_idle-via-else-was_idle w ↦ λ h. let no : c.loop.was_idle ≡ false = w.if-was_idle.false in cc
    ] in
    record {
      taken = next_status _ _ _ c.loop.was_idle is c.loop.counter c.told.new.got one refl stays c.loop.invariant.taken c.in_ok-told.ensures.answers;
      reads = c.in_ok-told.ensures.reads ∙ c.loop.invariant.reads;
      one = one;
    }
