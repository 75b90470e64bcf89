-- The cells of the lines so far are marked.
use Rattle.std.proofs.Common.{take}
use Rattle.nor_map.specs.Cells.{is_worked}
use Rattle.nor_map.specs.Marks.{MarkedBy}
use Rattle.nor_map.proofs.cells.mark_lines.Given as goal

abbrev pub invariant-loop-line : goal.invariant-loop-line
invariant-loop-line l = MarkedBy l.cell (is_worked l.work (take l.line-index l.lines)) l.initial.marks l.marks
