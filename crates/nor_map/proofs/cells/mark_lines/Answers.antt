-- No line, and one line more.
use Rattle.std.proofs.Common.{[], false, get_or, refl}
use Rattle.nor_map.specs.Cells.{is_worked}
use Rattle.nor_map.proofs.CellLemmas.{one_line, no_byte, marked_more}
use Rattle.nor_map.proofs.cells.mark_lines.Goals as goal

pub loop-line-init : goal.loop-line-init
loop-line-init c = record {
  same_length = refl;
  each = λ i inside. no_byte c.args.cell (is_worked c.args.work []) (get_or c.args.marks.now i false) i (λ a. refl);
}

pub loop-line-preserved : goal.loop-line-preserved
loop-line-preserved c =
    marked_more c.args.cell _ _ _ c.args.marks.now c.loop-line.marks _ c.loop-line.invariant c.mark_line.ensures
    (λ i. one_line c.args.work c.args.lines.now c.loop-line.line-index _ c.args.cell i c.loop-line-test.true)
