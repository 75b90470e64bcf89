-- The test of the line, and then the chip.
use Rattle.norprog_flash.specs.Opened.{AtLine}
use Rattle.norprog_flash.proofs.StopsLemmas.{holds_not}
use Rattle.norprog_flash.proofs.begun.hold.Goals as goal

pub returns-in-Ok-clause-stops : goal.returns-in-Ok-clause-stops
returns-in-Ok-clause-stops g c =
    holds_not c.args.limits.now c.args.job.now _ _ _ c.read_suited.result
    c.in-Ok.ensures.tests c.read_suited.ensures.stops c.read_suited.ensures.harmless

pub returns-in-Err-clause-stops : goal.returns-in-Err-clause-stops
returns-in-Err-clause-stops g c = AtLine c.in-Err.why c.in-Err.ensures.tests
