-- The cells of a row, and the heights of two.
use Rattle.nor_map.proofs.RowLemmas.{plain_kept, rows_apart, rows_together}
use Rattle.nor_map.proofs.laws.folded_rows.Goals as goal

pub returns-clause-cells : goal.returns-clause-cells
returns-clause-cells c = plain_kept

pub returns-clause-rows : goal.returns-clause-rows
returns-clause-rows c = record { apart = rows_apart; together = rows_together }
