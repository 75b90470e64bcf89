-- The sums over the lines before, and over these.
use Rattle.std.proofs.Common.{◌∙◌}
use Rattle.nor_times.proofs.TimingLemmas.{timing_more}
use Rattle.nor_times.proofs.timing.PlanTimes.add.Goals as goal

pub returns : goal.returns
returns c m start verify times told is =
    let more = timing_more _ c.args.lines.now m start verify times told (c.self.view_is ∙ is) in
    cc more
