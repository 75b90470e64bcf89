-- At a failure the parts before this one were put, and a proper prefix of it.
use Rattle.nor_base.proofs.DeviceLaws.{Cuts-at, Writes-cut}
use Rattle.nor_base.proofs.transfer.put_parts.Goals as goal

pub returns-in_err-put_all-clause-bytes : goal.returns-in_err-put_all-clause-bytes
returns-in_err-put_all-clause-bytes g c =
    Writes-cut _ _ _ _ c.from_residual.ensures.0
    (Cuts-at (λ part. part.now) c.args.parts.now _ c.loop-part.part-index _ _ _ c.loop-part-test.true c.loop-part.invariant.put c.in_err-put_all.ensures.bytes)
