-- The handshake, the steps, the pins.
use Rattle.norprog_player.specs.Played.{NotGreeted, Session}
use Rattle.norprog_player.proofs.played.play_on.Goals as goal

pub returns-in-Err : goal.returns-in-Err
returns-in-Err g c = NotGreeted c.in-Err.why c.in-Err.ensures.greeted

pub returns : goal.returns
returns g c =
    Session c.in-Ok.limits _ _ c.play_tested-ended.result c.in-Ok.ensures.greeted c.play_tested-ended.ensures (rw c.frees_pins.ensures at c.let_go.ensures.goes)
