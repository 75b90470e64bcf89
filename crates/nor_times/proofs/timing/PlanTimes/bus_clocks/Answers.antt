-- Of the lines so far.
use Rattle.std.proofs.Common.{◌+◌, ◌∙◌, ap}
use Rattle.nor_times.proofs.TimingLemmas.{bus_is}
use Rattle.nor_times.proofs.timing.PlanTimes.bus_clocks.Goals as goal

pub returns : goal.returns
returns c m start verify times told is =
    ap (λ n. n + c.self.inside.clocks) (c.from.ensures ∙ c.mode_clocks.ensures.value) ∙ bus_is _ m start verify times told (c.self.view_is ∙ is)
