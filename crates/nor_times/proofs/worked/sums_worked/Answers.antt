-- By computation.
use Rattle.std.proofs.Common.{refl}
use Rattle.std.specs.Fmt.{digits}
use Rattle.nor_base.specs.Strategies.{strategy}
use Rattle.nor_times.specs.Busy.{busy_of}
use Rattle.nor_times.specs.Bus.{bus_of}
use Rattle.nor_times.specs.Text.{times_text}
use Rattle.nor_times.proofs.worked.sums_worked.Goals as goal

pub returns-clause-programs : goal.returns-clause-programs
returns-clause-programs c =
    record { of_none = refl; of_one = refl; of_two = refl; of_most = refl; of_as_long = refl; of_a_page = refl }

pub returns-clause-sums : goal.returns-clause-sums
unfolding busy_of
returns-clause-sums c = record { of_some = refl; of_last = refl; of_another = refl; of_none = refl }

pub returns-clause-clocks : goal.returns-clause-clocks
unfolding bus_of strategy
returns-clause-clocks c = record { of_work = refl; of_verified = refl; of_switched = refl; of_nothing = refl; of_quad = refl }

pub returns-clause-lines : goal.returns-clause-lines
unfolding times_text digits
returns-clause-lines c = record { of_known = refl; of_whole = refl; of_unknown = refl }
