-- Work on the chip behind a device, from the test of the line on (this project's).
use Rattle.std.specs.Prelude.{Result, Ok, Err}
use Rattle.nor_reader.specs.AtOnce.{at_once}
use Rattle.nor_reader.specs.Harmless.{SendsHarmless}
use Rattle.nor_serprog.specs.declared.fault.Fault.{Fault}
use Rattle.nor_serprog.specs.declared.limits.Limits.{Limits}
use Rattle.nor_serprog.specs.Line.{TestsLine}
use Rattle.nor_base.specs.Wire.{Wire}
use Rattle.norprog_device.specs.declared.fault.DeviceFault.TheVariants.{Line}
use Rattle.norprog_flash.specs.declared.ending.Ending.{Ending}
use Rattle.norprog_flash.specs.declared.ending.Unflashed.{Unflashed}
use Rattle.norprog_flash.specs.declared.ending.Unflashed.TheVariants.{Device}
use Rattle.norprog_flash.specs.declared.job.Job.{Job}
use Rattle.norprog_flash.specs.Begun.{HasRead, Printed, Session}
use Rattle.norprog_flash.specs.Ended.{EndsWork}
use Rattle.norprog_flash.specs.Stops.{StopsBefore}
use Rattle.norprog_read.specs.declared.asked.Reading.{Reading}

-- the line was tested with this result
abbrev pub Tests : Limits → Wire → Wire → Result (Unit {0}) Fault → Type 0
Tests limits before after result = TestsLine before after result limits

-- the line was tested, and the chip was read, which can take the work
pub record HasHeld (limits : Limits) (job : Job) (before after : Wire) (r : Reading) : Type 0 where
  pub ready : Wire
  pub tested : Tests limits before ready (Ok tt)
  pub read : HasRead (at_once limits) job ready after r

-- the test of the line stopped so; or the reading of the chip did, or the chip can't take the work, and nothing was sent that changes it
pub data StopsHolding (limits : Limits) (job : Job) (before after : Wire) : Unflashed → Type 0 where
  AtLine : (why : Fault) → Tests limits before after (Err why) → StopsHolding limits job before after (Device (Line why))
  AtChip : (ready : Wire) (why : Unflashed) → Tests limits before ready (Ok tt) → StopsBefore (at_once limits) ready after job why
      → SendsHarmless ready.held after.held → StopsHolding limits job before after why

-- the line was tested, and then the work on a chip that gave this ended so
pub record EndsTested (s : Session) (before after : Wire) (out : Printed) (ending : Ending) : Type 0 where
  pub ready : Wire
  pub tested : Tests s.limits before ready (Ok tt)
  pub ends : EndsWork s ready after out ending
