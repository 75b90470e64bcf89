-- By computation.
use Rattle.std.proofs.Common.{refl}
use Rattle.nor_map.specs.Cells.{doubled}
use Rattle.nor_map.specs.Marks.{marks_of}
use Rattle.nor_map.proofs.worked.states_worked.Goals as goal

pub returns-clause-states : goal.returns-clause-states
unfolding marks_of doubled
returns-clause-states c = record { states = refl; shares = refl; blocks = refl; programs = refl }

pub returns-clause-other : goal.returns-clause-other
unfolding marks_of doubled
returns-clause-other c = record { untouched = refl; twice = refl }
