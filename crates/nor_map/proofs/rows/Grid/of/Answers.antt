-- Each list has an entry for each cell.
use Rattle.std.proofs.Common.{◌∙◌, ◌<◌, ◌^◌, sym, ap, length, subst}
use Rattle.std.proofs.lemmas.List.FromFn.{length-map-range_with_len}
use Rattle.nor_map.proofs.RowLemmas.{some_edges}
use Rattle.nor_map.proofs.rows.Grid.of.Goals as goal

pub invariant_of-cells : goal.invariant_of-cells
invariant_of-cells c =
    let each = c.in_ok-edges_of.ensures.each ∙ sym (ap length c.in_ok-busy_of.ensures ∙ length-map-range_with_len _ 0 _) in
    record { edges_each = each; few = subst (λ n. n < 2 ^ 32) each c.in_ok-edges_of.ensures.few }

pub returns : goal.returns
returns c = some_edges c.args.marks.now c.in_ok-busy_of.field-0.items c.in_ok-edges_of.field-0.items c.rows_of.result c.in_ok-busy_of.ensures c.rows_of.ensures
