-- By computation.
use Rattle.std.proofs.Common.{refl, [], ◌∷◌}
use Rattle.bstr.specs.Text.{lines_from, line_len}
use Rattle.nor_hex.specs.Record.{record_of}
use Rattle.norprog_laws.specs.Read.{of_line}
use Rattle.norprog_laws.proofs.worked.hex_worked.Goals as goal

pub returns-clause-records : goal.returns-clause-records
unfolding record_of
returns-clause-records c = record { of_data = refl; end = refl; colon = refl; digit = refl; shorter = refl; sum = refl; kind = refl }

pub returns-clause-lines : goal.returns-clause-lines
unfolding record_of lines_from line_len
returns-clause-lines c = record { each = refl; blank_first = refl }

pub returns-clause-addresses : goal.returns-clause-addresses
returns-clause-addresses c = record {
  of_linear = refl;
  of_segment = refl;
  past_the_end = refl;
  without = refl;
  last = refl;
  puts = record {
    place = 1;
    line = of_line 2 0 5 (0xAB ∷ []);
    here = refl;
    lays = record { is_data = refl; index = 0; byte_is = refl; address_is = refl };
  };
  there = refl;
  nowhere = refl;
}
