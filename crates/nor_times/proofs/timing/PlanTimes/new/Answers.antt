-- No line has been added.
use Rattle.nor_times.proofs.TimingLemmas.{none_yet}
use Rattle.nor_times.proofs.timing.PlanTimes.new.Goals as goal

pub returns : goal.returns
returns c = none_yet c.new.result c.args.meaning.now c.args.start.now c.args.verify c.args.times c.new.ensures
