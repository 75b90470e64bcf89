-- Line after line.
use Rattle.nor_listing.proofs.LawLemmas.{one_list}
use Rattle.nor_listing.proofs.law.one_listing.Goals as goal

pub returns : goal.returns
returns c = λ m mode4 xs ys first second h. one_list c.spelling.ensures.same m mode4 xs ys first second h
