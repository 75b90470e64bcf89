-- The rows that were computed.
use Rattle.nor_map.proofs.RowLemmas.{rows_put}
use Rattle.nor_map.proofs.rows.rows_of.Goals as goal

pub returns : goal.returns
returns c =
    rows_put c.args.cells c.columns_of-columns.result c.high_of-high.result c.in_ok-tops.tops.items c.columns_of-columns.ensures.value c.in_ok-tops.ensures
    c.high_of-high.ensures.value
