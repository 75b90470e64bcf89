-- The handshake, the job, the pins.
use Rattle.std.proofs.Common.{[], refl}
use Rattle.norprog_files.proofs.FilesLemmas.{adds_none}
use Rattle.norprog_named.specs.Flash.{NotGreeted, Session}
use Rattle.norprog_named.proofs.flash_files.flash_greeted.Goals as goal

pub returns-in-Err-clause-ends : goal.returns-in-Err-clause-ends
returns-in-Err-clause-ends g c = ([], adds_none _, NotGreeted c.in-Err.why c.in-Err.ensures.greeted refl)

pub returns-clause-ends : goal.returns-clause-ends
returns-clause-ends g c =
    let did = c.flash_held-ended.ensures.ends in (
      did.0,
      did.1,
      Session c.in-Ok.limits _ _ did.0 c.flash_held-ended.result c.in-Ok.ensures.greeted did.2 (rw c.frees_pins.ensures at c.let_go.ensures.goes),
    )
