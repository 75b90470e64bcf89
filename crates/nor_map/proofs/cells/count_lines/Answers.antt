-- No line, and one line more.
use Rattle.std.proofs.Common.{refl}
use Rattle.nor_map.proofs.CountLemmas.{more_counted, next_line, none_counted}
use Rattle.nor_map.proofs.cells.count_lines.Goals as goal

pub loop-line-init : goal.loop-line-init
loop-line-init c = none_counted c.args.cell _ c.args.counts.now (λ i. refl)

pub loop-line-preserved : goal.loop-line-preserved
loop-line-preserved c =
    more_counted c.args.cell _ _ _ c.args.counts.now c.loop-line.counts _ c.loop-line.invariant c.count_line.ensures
    (λ i. next_line c.args.cell c.args.wanted.now c.args.lines.now c.loop-line.line-index _ i c.loop-line-test.true)
