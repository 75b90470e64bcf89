-- How steps on a device end, from its handshake on (this project's).
use Rattle.std.specs.Prelude.{◌&&◌, not, Result, Ok, Err}
use Rattle.nor_base.specs.Wire.{Wire}
use Rattle.nor_job.specs.declared.fault.BuildFault.TheVariants.{Memory}
use Rattle.nor_serprog.specs.declared.fault.Fault.{Fault}
use Rattle.nor_serprog.specs.declared.fault.GreetFault.{GreetFault}
use Rattle.nor_serprog.specs.declared.limits.Limits.{Limits}
use Rattle.nor_serprog.specs.Greeting.{Greeted}
use Rattle.nor_serprog.specs.Line.{TestsLine}
use Rattle.norprog_common.specs.declared.faults.Refusal.TheVariants.{Build}
use Rattle.norprog_device.specs.declared.fault.DeviceFault.TheVariants.{Greet, Line}
use Rattle.norprog_device.specs.Blame.{is_cut}
use Rattle.norprog_device.specs.Opened.{LetsGo}
use Rattle.norprog_player.specs.declared.course.Course.{Course}
use Rattle.norprog_player.specs.declared.ending.Ending.{Ending}
use Rattle.norprog_player.specs.declared.unplayed.Unplayed.{Unplayed}
use Rattle.norprog_player.specs.declared.unplayed.Unplayed.TheVariants.{Refused, Device}
use Rattle.norprog_player.specs.Blame.{fault_in}
use Rattle.norprog_player.specs.Ending.{EndsOnChip}

-- on a device that reported these limits, from the test of its line on
pub data EndsTested (limits : Limits) (c : Course) (before after : Wire) : Result Ending Unplayed → Type 0 where
  -- the line was tested, and then the steps ended so
  OnChip : (tested : Wire) (ending : Ending) → TestsLine before tested (Ok tt) limits → EndsOnChip limits c tested after ending
      → EndsTested limits c before after (Ok ending)
  -- the test of the line ended early
  NoLine : (why : Fault) → TestsLine before after (Err why) limits → EndsTested limits c before after (Err (Device (Line why)))
  -- the line was tested; then memory was refused, and nothing more was done
  NoMemory : TestsLine before after (Ok tt) limits → EndsTested limits c before after (Err (Refused (Build Memory)))

-- on a device, from its handshake on
pub data EndsGreeted (c : Course) (first last : Wire) : Result Ending Unplayed → Type 0 where
  -- the device reported these limits, and it ended so; then the pins were let go, unless a request was cut
  Session : (limits : Limits) (begun done : Wire) (answer : Result Ending Unplayed) → Greeted first begun (Ok limits)
      → EndsTested limits c begun done answer → LetsGo done last (limits.pins && not (is_cut (fault_in answer))) → EndsGreeted c first last answer
  -- the handshake ended early
  NotGreeted : (why : GreetFault) → Greeted first last (Err why) → EndsGreeted c first last (Err (Device (Greet why)))
