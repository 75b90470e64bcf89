-- One row more.
use Rattle.std.proofs.Common.{◌∙◌, ◌<◌, ◌++◌, ◌∷◌, [], sym, ap, subst, arith}
use Rattle.std.proofs.lemmas.List.FromFn.{map-range_with_len_more}
use Rattle.std.specs.Prelude.{map}
use Rattle.std.specs.List.{range_with_len}
use Rattle.nor_map.specs.Rows.{top_of}
use Rattle.nor_map.proofs.RowLemmas.{row_inside, top_more}
use Rattle.nor_map.proofs.rows.tops_of.Goals as goal

pub row_height-top-requires-clause-inside : goal.row_height-top-requires-clause-inside
row_height-top-requires-clause-inside c = row_inside _ _ _ (omega arith) (subst (λ n. c.loop-row.row < n) c.rows-row-end.ensures.value c.loop-row-test.true)

pub loop-row-preserved : goal.loop-row-preserved
loop-row-preserved c = record {
  each =
      c.in_ok-push.ensures.items
      ∙ ap (λ l. l ++ c.loop-row.top ∷ []) c.loop-row.invariant.each
      ∙ ap (λ n. map (top_of c.args.cells.now c.args.columns) (range_with_len 0 c.loop-row.row) ++ n ∷ []) c.loop-row.invariant.high
      ∙ sym (map-range_with_len_more (top_of c.args.cells.now c.args.columns) 0 c.loop-row.row c.loop-row.row (omega arith));
  high = omega (arith, c.loop-row.invariant.high, c.row_height-top.ensures.value, top_more c.args.cells.now c.args.columns c.loop-row.row);
  few = omega arith;
}
