-- At a failure what comes before this one was put, and a proper prefix of it.
use Rattle.nor_base.proofs.DeviceLaws.{Cuts-at, Writes-cut}
use Rattle.norprog_device.specs.Shell.{quoted}
use Rattle.norprog_device.proofs.shell.write_quoted.Goals as goal

pub returns-in_err-write_byte-clause-bytes : goal.returns-in_err-write_byte-clause-bytes
returns-in_err-write_byte-clause-bytes g c =
    Writes-cut _ _ _ _ c.from_residual.ensures.0
    (Cuts-at quoted c.args.text.now _ c.loop-byte.byte-index _ _ _ c.loop-byte-test.true c.loop-byte.invariant.put c.in_err-write_byte.ensures.bytes)
