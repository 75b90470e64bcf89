-- The new bytes of its run, or none.
use Rattle.nor_map.proofs.CountLemmas.{line_some, line_none}
use Rattle.nor_map.proofs.cells.count_line.Goals as goal

pub returns-in-Some : goal.returns-in-Some
returns-in-Some c = line_some c.args.cell c.args.wanted.now c.args.line (c.in-Some.first, c.in-Some.last) _ _ c.in-Some.ensures.value c.count.ensures

pub returns-in_default : goal.returns-in_default
returns-in_default c = line_none c.args.cell c.args.wanted.now c.args.line c.args.counts.now c.in_default.ensures.value
