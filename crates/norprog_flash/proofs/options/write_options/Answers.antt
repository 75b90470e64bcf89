-- At a failure what comes before this one was put, and a proper prefix of it.
use Rattle.nor_base.proofs.DeviceLaws.{Cuts-at, Writes-cut}
use Rattle.norprog_flash.specs.State.{given_text}
use Rattle.norprog_flash.proofs.options.write_options.Goals as goal

pub returns-in_err-write_given-clause-bytes : goal.returns-in_err-write_given-clause-bytes
returns-in_err-write_given-clause-bytes g c =
    Writes-cut _ _ _ _ c.from_residual.ensures.0
    (Cuts-at given_text c.args.options.now _ c.loop-option.option-index _ _ _ c.loop-option-test.true c.loop-option.invariant.put c.in_err-write_given.ensures.bytes)
