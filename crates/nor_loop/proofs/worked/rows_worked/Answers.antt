-- Rows worked out by hand.
use Rattle.nor_loop.proofs.WorkedValues.{clocks_of_a_row, program_alone}
use Rattle.nor_loop.proofs.worked.rows_worked.Goals as goal

pub returns-clause-clocks : goal.returns-clause-clocks
returns-clause-clocks c = clocks_of_a_row

pub returns-clause-alone : goal.returns-clause-alone
returns-clause-alone c = program_alone
