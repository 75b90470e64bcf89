-- Where the tables tell of the times.
use Rattle.std.proofs.Common.{◌∙◌, sym, ap}
use Rattle.std.specs.Prelude.{option_map}
use Rattle.nor_times.proofs.TimingLemmas.{busy_is}
use Rattle.nor_times.proofs.timing.PlanTimes.busy_time.Goals as goal

pub returns-in-None : goal.returns-in-None
returns-in-None c m start verify times told is =
    sym (ap (option_map (λ _. c.self.inside.busy)) c.in-None.is) ∙ busy_is _ m start verify times told (c.self.view_is ∙ is)

pub returns-in-Some : goal.returns-in-Some
returns-in-Some c m start verify times told is =
    sym (ap (option_map (λ _. c.self.inside.busy)) c.in-Some.is) ∙ busy_is _ m start verify times told (c.self.view_is ∙ is)
