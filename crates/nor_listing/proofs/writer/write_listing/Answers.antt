-- The lines were put, and the end line.
use Rattle.nor_base.specs.Chip.{begins4}
use Rattle.nor_base.proofs.DeviceLaws.{Writes-cut}
use Rattle.nor_listing.proofs.ListLemmas.{unended_cut, all_put}
use Rattle.nor_listing.proofs.writer.write_listing.Goals as goal

pub returns-in_err-write_unended-clause-bytes : goal.returns-in_err-write_unended-clause-bytes
returns-in_err-write_unended-clause-bytes g c =
    let m = c.args.meaning.now in
    Writes-cut _ _ _ _ c.from_residual.ensures.0
    (unended_cut m (begins4 m c.args.start.now) c.args.steps.now _ _ c.in_err-write_unended.ensures.bytes)

pub returns-clause-bytes : goal.returns-clause-bytes
returns-clause-bytes g c =
    let m = c.args.meaning.now in
    all_put m (begins4 m c.args.start.now) c.args.steps.now _ _ _ _ c.in_ok-write_unended.ensures.bytes c.finish.ensures.bytes
