-- A lane that differs is kept and compared with FFh; the others are FFh.
use Rattle.std.proofs.Common.{replicate, w8}
use Rattle.std.proofs.lemmas.Simd.{tops_compared}
use Rattle.nor_erase.proofs.LaneLemmas.{apart, kept_tells}
use Rattle.nor_erase.proofs.lanes.dirty_lanes.Goals as goal

pub returns : goal.returns
returns c = kept_tells c.args.have c.args.want _ _ (tops_compared w8 apart c.args.have c.args.want)
    (tops_compared w8 apart _ (replicate 32 255)) c.fits-have.0 c.fits-want.0
