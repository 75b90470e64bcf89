-- By computation.
use Rattle.std.proofs.Common.{refl}
use Rattle.nor_sfdp.specs.Bits.{dword_at}
use Rattle.nor_times.specs.Times.{times_by, times_in}
use Rattle.nor_times.proofs.worked.table_worked.Goals as goal

pub returns-clause-read : goal.returns-clause-read
unfolding dword_at times_by times_in
returns-clause-read c = record { by_dwords = refl; by_table = refl; too_short = refl }

pub returns-clause-ends : goal.returns-clause-ends
unfolding times_by
returns-clause-ends c = record { by_zeros = refl; by_ones = refl }
