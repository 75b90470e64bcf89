-- By computation.
use Rattle.std.proofs.Common.{refl}
use Rattle.nor_sfdp.specs.Basic.{size_of}
use Rattle.nor_sfdp.specs.Bits.{dword_at}
use Rattle.nor_sfdp.specs.Headers.{header_at, header_count_of}
use Rattle.nor_sfdp.specs.Reading.{density_of}
use Rattle.nor_sfdp.specs.Tables.{cut_of, cut_where_there, table_of}
use Rattle.nor_reader.proofs.own_worked.own_tables_worked.Goals as goal

pub returns-clause-densities : goal.returns-clause-densities
unfolding density_of table_of header_count_of header_at cut_where_there cut_of dword_at size_of
returns-clause-densities c = record { of_basic = refl; of_two = refl; of_one = refl; of_another = refl }

pub returns-clause-registers : goal.returns-clause-registers
unfolding table_of header_count_of header_at cut_where_there cut_of dword_at
returns-clause-registers c =
    record { by_26 = refl; by_27 = refl; by_both = refl; by_none = refl; too_short = refl; of_another = refl; of_none = refl }

pub returns-clause-opcodes : goal.returns-clause-opcodes
returns-clause-opcodes c = record { of_extended = refl; of_bank = refl }

pub returns-clause-values : goal.returns-clause-values
returns-clause-values c = record { at_first = refl; far = refl; bank_at_first = refl; bank_far = refl }
