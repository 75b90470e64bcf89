-- A step that the device can't do.
use Rattle.std.proofs.Common.{refl}
use Rattle.norprog_player.specs.Ending.{NotCarried}
use Rattle.norprog_player.proofs.device.play_on_device.Goals as goal

pub returns-in-Some : goal.returns-in-Some
returns-in-Some g c = record { ends = NotCarried c.in-Some.step (rw c.in-Some.is at c.in_ok-step.ensures) refl }
