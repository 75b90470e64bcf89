-- The law.
use Rattle.nor_cells.proofs.LawLemmas.{no_wider_erase}
use Rattle.nor_cells.proofs.laws.wider_erase_shows.Goals as goal

pub returns : goal.returns
returns c = no_wider_erase
