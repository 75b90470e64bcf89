-- A chip that was read, or wasn't, from the handshake on (this project's).
use Rattle.std.specs.Prelude.{not, ◌&&◌, Ok, Err}
use Rattle.nor_serprog.specs.declared.limits.Limits.{Limits}
use Rattle.nor_serprog.specs.Greeting.{Greeted}
use Rattle.nor_serprog.specs.Line.{TestsLine}
use Rattle.nor_reader.specs.AtOnce.{at_once}
use Rattle.norprog_device.specs.declared.fault.DeviceFault.TheVariants.{Greet, Line}
use Rattle.norprog_device.specs.Blame.{is_cut}
use Rattle.norprog_device.specs.Opened.{LetsGo}
use Rattle.nor_base.specs.Wire.{Wire}
use Rattle.norprog_read.specs.declared.asked.Ask.{Ask}
use Rattle.norprog_read.specs.declared.asked.Reading.{Reading}
use Rattle.norprog_read.specs.declared.fault.Unread.{Unread}
use Rattle.norprog_read.specs.declared.fault.Unread.TheVariants.{Device}
use Rattle.norprog_read.specs.Chip.{HasReadChip}
use Rattle.norprog_read.specs.Blame.{fault_of_stop}
use Rattle.norprog_read.specs.Stops.{StopsChip}

-- the device reported these limits
abbrev pub HasGreeted : Wire → Wire → Limits → Type 0
HasGreeted before after limits = Greeted before after (Ok limits)

-- the line was tested, and changes nothing of what goes out
abbrev pub HasTested : Wire → Wire → Limits → Type 0
HasTested before after limits = TestsLine before after (Ok tt) limits

-- then the chip was read, by reads of no more bytes than the device gives at once
pub record HasReadTested (before after : Wire) (limits : Limits) (ask : Ask) (r : Reading) : Type 0 where
  pub between : Wire
  pub tested : HasTested before between limits
  pub read : HasReadChip (at_once limits) between after ask r

-- it was tested, and the reading of the chip stopped so
pub record StopsReading (before after : Wire) (limits : Limits) (ask : Ask) (why : Unread) : Type 0 where
  pub between : Wire
  pub tested : HasTested before between limits
  pub stops : StopsChip (at_once limits) between after ask why

-- the test of the line stopped so, or what came after it
abbrev pub StopsTested : Wire → Wire → Limits → Ask → Unread → Type 0
StopsTested before after limits ask (Device (Greet why)) = ⊥
StopsTested before after limits ask (Device (Line why)) = TestsLine before after (Err why) limits
StopsTested before after limits ask why = StopsReading before after limits ask why

-- the handshake, the test of the line, the chip, the pins: nothing else was sent
pub record HasReadOpened (before after : Wire) (ask : Ask) (r : Reading) : Type 0 where
  pub begun : Wire
  pub limits : Limits
  pub greeted : HasGreeted before begun limits
  pub ended : Wire
  pub read : HasReadTested begun ended limits ask r
  pub released : LetsGo ended after limits.pins

-- the handshake was done, what came after it stopped so, and the pins were let go, unless a request was cut: then nothing followed it
pub record StopsGreeted (before after : Wire) (ask : Ask) (why : Unread) : Type 0 where
  pub begun : Wire
  pub limits : Limits
  pub greeted : HasGreeted before begun limits
  pub ended : Wire
  pub stops : StopsTested begun ended limits ask why
  pub released : LetsGo ended after (limits.pins && not (is_cut (fault_of_stop why)))

-- the handshake stopped so, or what came after it
abbrev pub StopsOpened : Wire → Wire → Ask → Unread → Type 0
StopsOpened before after ask (Device (Greet why)) = Greeted before after (Err why)
StopsOpened before after ask why = StopsGreeted before after ask why
