-- Line after line.
use Rattle.nor_listing.proofs.FaultLemmas.{no_fault}
use Rattle.nor_listing.proofs.law.faultless_listings.Goals as goal

pub returns : goal.returns
returns c = λ m mode4 text steps n is fault. no_fault c.spelling.ensures.same m mode4 text steps is n fault
