use Rattle.std.proofs.Common.{sym}
use Rattle.nor_listing.proofs.law.listing_read_back.Goals as goal

pub returns : goal.returns
returns c = λ m mode4 xs ys few read. c.one_listing.ensures m mode4 ys xs read.each few (sym read.spelled)
