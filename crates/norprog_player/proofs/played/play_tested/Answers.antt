-- The test of the line, and then the steps.
use Rattle.nor_base.proofs.FaultLaws.{answered}
use Rattle.nor_base.specs.Wire.{wire}
use Rattle.nor_job.specs.declared.fault.BuildFault.TheVariants.{Memory}
use Rattle.norprog_common.specs.declared.faults.Refusal.TheVariants.{Build}
use Rattle.norprog_player.specs.declared.unplayed.Unplayed.TheVariants.{Refused}
use Rattle.norprog_player.specs.Played.{EndsTested, NoLine, NoMemory, OnChip}
use Rattle.norprog_player.proofs.played.play_tested.Goals as goal

pub returns-in-Err : goal.returns-in-Err
returns-in-Err g c = NoLine c.in-Err.why c.in-Err.ensures.tests

pub returns-in_err-play_on_device : goal.returns-in_err-play_on_device
returns-in_err-play_on_device g c =
    let before = wire (g.W.ByteOut.held c.args.to.now) (g.R.ByteIn.ahead c.args.from.now) in
    let after = wire (g.W.ByteOut.held c.play_on_device.new.to) (g.R.ByteIn.ahead c.play_on_device.new.from) in
    let same = c.in_err-play_on_device.ensures.ends in
    answered _ (EndsTested c.args.limits.now c.args.course.now before after) (Refused (Build Memory)) (NoMemory (rw (same.0, same.1) c.in_default.ensures.tests))
    c.from_residual.ensures.1

pub returns : goal.returns
returns g c = OnChip _ _ c.in_default.ensures.tests c.in_ok-play_on_device.ensures.ends
