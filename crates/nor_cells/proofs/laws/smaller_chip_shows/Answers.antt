-- The law.
use Rattle.nor_cells.proofs.LawLemmas.{no_smaller_chip}
use Rattle.nor_cells.proofs.laws.smaller_chip_shows.Goals as goal

pub returns : goal.returns
returns c = no_smaller_chip
