-- By computation.
use Rattle.std.proofs.Common.{refl}
use Rattle.nor_waves.specs.Ticks.{clocks_ticks, step_ticks, ticks}
use Rattle.nor_waves.proofs.worked.four_lanes_worked.Goals as goal

pub returns-clause-timed : goal.returns-clause-timed
unfolding clocks_ticks step_ticks ticks
returns-clause-timed c = record { selected = refl; clocked = refl; sampled = refl }

pub returns-clause-driven : goal.returns-clause-driven
unfolding clocks_ticks step_ticks ticks
returns-clause-driven c = record { lane0 = refl; lane1 = refl; lane2 = refl; lane3 = refl }

pub returns-clause-read_timed : goal.returns-clause-read_timed
unfolding clocks_ticks step_ticks ticks
returns-clause-read_timed c = record { selected = refl; clocked = refl; sampled = refl }

pub returns-clause-read : goal.returns-clause-read
unfolding clocks_ticks step_ticks ticks
returns-clause-read c = record { lane0 = refl; lane1 = refl; lane2 = refl; lane3 = refl }

pub returns-clause-strange : goal.returns-clause-strange
unfolding clocks_ticks step_ticks ticks
returns-clause-strange c = record { lane0 = refl; lane1 = refl; lane2 = refl; lane3 = refl }
