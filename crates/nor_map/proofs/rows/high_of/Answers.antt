-- One row more.
use Rattle.std.proofs.Common.{◌<◌, subst, arith}
use Rattle.nor_map.proofs.RowLemmas.{row_inside, top_more}
use Rattle.nor_map.proofs.rows.high_of.Goals as goal

pub row_height-top-requires-clause-inside : goal.row_height-top-requires-clause-inside
row_height-top-requires-clause-inside c = row_inside _ _ _ (omega arith) (subst (λ n. c.loop-row.row < n) c.rows-row-end.ensures.value c.loop-row-test.true)

pub loop-row-preserved : goal.loop-row-preserved
loop-row-preserved c = record {
  high = omega (arith, c.loop-row.invariant.high, c.row_height-top.ensures.value, top_more c.args.cells.now c.args.columns c.loop-row.row);
  few = omega arith;
}
