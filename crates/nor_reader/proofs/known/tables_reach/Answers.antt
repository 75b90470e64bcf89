-- Header by header.
use Rattle.std.proofs.Common.{◌≡◌, ◌+◌, arith}
use Rattle.nor_reader.specs.Known.{header_count}
use Rattle.nor_reader.proofs.KnownLemmas.{reach_more, reach_all}
use Rattle.nor_reader.proofs.known.tables_reach.Goals as goal

pub loop-i-preserved : goal.loop-i-preserved
loop-i-preserved c =
    reach_more c.args.tables.now c.loop-i.i c.loop-i.reach c.table_end.result c.max-reach.result c.loop-i.invariant c.table_end.ensures c.max-reach.ensures

pub returns-clause-reach : goal.returns-clause-reach
returns-clause-reach c =
    let count : c.from-headers.result + 1 ≡ header_count c.args.tables.now = omega arith in
    reach_all c.args.tables.now c.loop-i.i c.loop-i.reach c.min.result (omega arith) (omega (arith, count)) c.loop-i.invariant c.min.ensures
