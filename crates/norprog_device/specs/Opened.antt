-- A device's handshake, the test of the line to it, and its pins (this project's; the exchanges are the Serial Flasher Protocol's).
use Rattle.std.specs.Prelude.{◌≡◌, ℕ, Bool, true, false, List, [], Option, Result, Ok, Err}
use Rattle.nor_base.specs.Device.{Ahead}
use Rattle.nor_serprog.specs.declared.fault.Fault.{Fault}
use Rattle.nor_serprog.specs.declared.limits.Limits.{Limits}
use Rattle.nor_serprog.specs.Exchange.{Answers, Asks}
use Rattle.nor_serprog.specs.Greeting.{Greeted, release_bytes}
use Rattle.nor_serprog.specs.Line.{TestsLine}
use Rattle.nor_base.specs.Wire.{Wire, wire}
use Rattle.norprog_device.specs.declared.fault.DeviceFault.{DeviceFault}
use Rattle.norprog_device.specs.declared.fault.DeviceFault.TheVariants.{Greet, Line}

-- the device reported these limits, and then the test of the line to it ended so
pub record HasOpened (before after : Wire) (limits : Limits) (result : Result (Unit {0}) Fault) : Type 0 where
  pub held : Option (List ℕ)
  pub ahead : Ahead
  pub greeted : Greeted before (wire held ahead) (Ok limits)
  pub tested : TestsLine (wire held ahead) after result limits

-- the handshake and the test of the line ended so
abbrev pub Opens : Wire → Wire → Result Limits DeviceFault → Type 0
Opens before after (Ok limits) = HasOpened before after limits (Ok tt)
Opens before after (Err (Greet why)) = Greeted before after (Err why)
Opens before after (Err (Line why)) = (limits : Limits) × HasOpened before after limits (Err why)

-- where the device drives the pins it was asked to let them go, whatever it answered; else nothing was sent
abbrev pub LetsGo : Wire → Wire → Bool → Type 0
LetsGo before after true =
    (result : Result (Unit {0}) Fault) × Asks before after result release_bytes
    (Answers before.ahead after.ahead result [])
LetsGo before after false = after ≡ before
