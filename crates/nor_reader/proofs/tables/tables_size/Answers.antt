-- Header by header.
use Rattle.nor_reader.proofs.KnownLemmas.{reach_more}
use Rattle.nor_reader.proofs.tables.tables_size.Goals as goal

pub loop-i-preserved : goal.loop-i-preserved
loop-i-preserved c =
    reach_more c.args.headers.now c.loop-i.i c.loop-i.reach c.table_end.result c.max-reach.result c.loop-i.invariant c.table_end.ensures c.max-reach.ensures
