-- At a failure the lines before this one were put, and a proper prefix of it.
use Rattle.nor_base.proofs.DeviceLaws.{Cuts-at, Writes-cut}
use Rattle.norprog.specs.ChipText.{region_text}
use Rattle.norprog.proofs.chip_text.put_regions.Goals as goal

pub returns-in_err-put_region-clause-bytes : goal.returns-in_err-put_region-clause-bytes
returns-in_err-put_region-clause-bytes g c =
    Writes-cut _ _ _ _ c.from_residual.ensures.0
    (Cuts-at region_text c.args.regions.now _ c.loop-region.region-index _ _ _ c.loop-region-test.true c.loop-region.invariant.put c.in_err-put_region.ensures.bytes)
