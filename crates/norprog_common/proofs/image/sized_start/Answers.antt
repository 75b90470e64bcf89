-- The region of the name has this size, or another one.
use Rattle.std.proofs.Common.{sym}
use Rattle.norprog_common.specs.Image.{NoRegion}
use Rattle.norprog_common.proofs.ImageLemmas.{sized}
use Rattle.norprog_common.proofs.image.sized_start.Goals as goal

pub returns-in-Some : goal.returns-in-Some
returns-in-Some c =
    sized c.args.regions.now c.args.name.now c.args.len _ c.start_in.result (sym c.in-Some.ensures) c.start_in.ensures.start c.start_in.ensures.refused

pub returns-in-None : goal.returns-in-None
returns-in-None c = NoRegion (sym c.in-None.ensures)
