-- Sixteen cells or more in each.
use Rattle.std.proofs.Common.{subst, sym, arith, ◌<◌, ◌^◌}
use Rattle.nor_map.proofs.RowLemmas.{few_rows}
use Rattle.nor_map.proofs.rows.rows.Goals as goal

pub returns-clause-few : goal.returns-clause-few
returns-clause-few c = subst (λ n. n < 2 ^ 29) (sym c.div_ceil.ensures) (few_rows _ _ c.requires (omega arith))
