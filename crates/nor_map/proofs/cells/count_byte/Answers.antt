-- In its cell, or in none.
use Rattle.std.proofs.Common.{arith}
use Rattle.nor_map.proofs.CountLemmas.{byte_counted, byte_outside}
use Rattle.nor_map.proofs.cells.count_byte.Goals as goal

pub returns-then-c-counts : goal.returns-then-c-counts
returns-then-c-counts c = byte_counted c.args.cell c.args.address c.min.result c.from.result c.args.counts.now c.requires.cell c.from.ensures c.if-c-counts.true (omega arith)

pub returns-else-c-counts : goal.returns-else-c-counts
returns-else-c-counts c = byte_outside c.args.cell c.args.address c.from.result c.args.counts.now c.requires.cell c.from.ensures c.if-c-counts.false
