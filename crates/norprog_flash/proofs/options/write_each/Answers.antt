-- At a failure what comes before this one was put, and a proper prefix of it.
use Rattle.std.proofs.Common.{[], Some}
use Rattle.nor_base.proofs.DeviceLaws.{Cuts-at, Writes-cut}
use Rattle.norprog_flash.specs.State.{valued}
use Rattle.norprog_flash.proofs.options.write_each.Goals as goal

pub returns-in_err-write_value-clause-bytes : goal.returns-in_err-write_value-clause-bytes
returns-in_err-write_value-clause-bytes g c =
    Writes-cut _ _ _ _ c.from_residual.ensures.0
    (Cuts-at (λ value. valued c.args.name (Some value.now) []) c.args.values.now _ c.loop-value.value-index _ _ _ c.loop-value-test.true c.loop-value.invariant.put
    c.in_err-write_value.ensures.bytes)
