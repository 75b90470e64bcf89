-- What was planned, and how the work on it went, are how it ends.
use Rattle.std.proofs.Common.{◌<◌, ℕ}
use Rattle.std.specs.List.{slice_index}
use Rattle.nor_base.specs.Wire.{wire}
use Rattle.norprog_flash.specs.Begun.{HasPlanned, printed, session}
use Rattle.norprog_flash.specs.Work.{plan_of}
use Rattle.norprog_flash.specs.Stops.{NoRoom}
use Rattle.norprog_flash.proofs.EndedLemmas.{goes_ends}
use Rattle.norprog_flash.proofs.device.work_through.Goals as goal

pub work_on-requires-clause-planned : goal.work_on-requires-clause-planned
work_on-requires-clause-planned g c =
    let read = c.requires.read.0 in
    let plan = c.in_ok-work.ensures.plan in (plan.0, (read.0, read.1, _, record { read = read.2; plan = plan.1 }))

pub returns-in-Ok-clause-ends : goal.returns-in-Ok-clause-ends
returns-in-Ok-clause-ends g c = λ first read.
    let plan = c.in_ok-work.ensures.plan in
    let bytes : (a : ℕ) → slice_index c.args.held.now.reading.content.items a < 256 = rw c.as_slice.ensures.value at c.are_bytes.ensures in
    let s = session c.args.job.now c.args.limits.now c.args.held.now.reading in
    let planned : HasPlanned s first (wire (g.W.ByteOut.held c.args.to.now) (g.R.ByteIn.ahead c.args.from.now)) (plan_of c.in_ok-work.work plan.0)
    (printed (g.O.ByteOut.held c.args.out.now) (g.O.ByteOut.held c.print_plan.new.out)) = record { read = read; plan = plan.1 } in
    goes_ends c.closes.ensures c.breaks.ensures.halts c.breaks.ensures.rests s first _ _ _ c.requires.whole.1 bytes c.requires.whole.0
    planned _ c.in-Ok.ending (c.in-Ok.ensures.goes plan.0 (first, _, _, planned))

pub returns-clause-refused : goal.returns-clause-refused
returns-clause-refused g c = NoRoom _ c.in_ok-work.ensures.plan.1.work c.in_ok-work.ensures.plan.1.printed
