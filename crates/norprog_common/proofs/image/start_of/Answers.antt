-- Where no region is named there is a start.
use Rattle.norprog_common.specs.Image.{All, From}
use Rattle.norprog_common.proofs.image.start_of.Goals as goal

pub returns-in-Chip-clause-start : goal.returns-in-Chip-clause-start
returns-in-Chip-clause-start c = rw c.in-Chip.is All

pub returns-in-At-clause-start : goal.returns-in-At-clause-start
returns-in-At-clause-start c = rw c.in-At.is (From c.in-At.start)
