-- The place by its parts.
use Rattle.nor_chip.proofs.PlaceLemmas.{place_by}
use Rattle.nor_chip.proofs.program.place.Goals as goal

pub returns-clause-value : goal.returns-clause-value
returns-clause-value c = place_by c.args.page c.args.address c.args.index _ c.place_in.ensures.value
