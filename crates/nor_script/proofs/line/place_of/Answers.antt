-- The place that the search finds.
use Rattle.nor_script.proofs.PlaceLemmas.{first_place}
use Rattle.nor_script.proofs.line.place_of.Goals as goal

pub returns : goal.returns
returns c = first_place _ c.args.bytes.now c.memchr.result c.memchr.ensures
