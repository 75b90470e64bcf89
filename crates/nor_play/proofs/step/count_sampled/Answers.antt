-- Where the search finds none, none is counted.
use Rattle.std.proofs.Common.{sym}
use Rattle.nor_play.proofs.SampledLemmas.{none_sampled}
use Rattle.nor_play.proofs.step.count_sampled.Goals as goal

pub returns-in-None : goal.returns-in-None
returns-in-None c = sym (none_sampled c.args.clocks.now c.in-None.ensures)
