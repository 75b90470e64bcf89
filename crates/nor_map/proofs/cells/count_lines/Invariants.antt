-- The new bytes of the lines so far are counted.
use Rattle.std.proofs.Common.{take}
use Rattle.nor_map.specs.Cells.{new_bytes}
use Rattle.nor_map.specs.Marks.{CountedBy}
use Rattle.nor_map.proofs.cells.count_lines.Given as goal

abbrev pub invariant-loop-line : goal.invariant-loop-line
invariant-loop-line l = CountedBy l.cell (new_bytes l.cell l.wanted (take l.line-index l.lines)) l.initial.counts l.counts
