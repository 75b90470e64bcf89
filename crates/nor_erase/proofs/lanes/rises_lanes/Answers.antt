-- A lane whose bytes differ after AND has a bit that rises.
use Rattle.std.proofs.Common.{bit_and, w8}
use Rattle.std.proofs.lemmas.Simd.{tops_compared}
use Rattle.std.specs.Simd.Lanes.{zip2}
use Rattle.nor_erase.proofs.LaneLemmas.{apart, mask_tells}
use Rattle.nor_erase.proofs.lanes.rises_lanes.Goals as goal

pub returns : goal.returns
returns c = mask_tells c.args.have c.args.want _ (tops_compared w8 apart (zip2 bit_and c.args.have c.args.want) c.args.want)
    c.fits-have.0 c.fits-want.0
