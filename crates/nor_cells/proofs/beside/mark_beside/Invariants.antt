-- The cells so far are marked.
use Rattle.nor_cells.specs.Marks.{IsMarkedCell, MarkedBy}
use Rattle.nor_cells.proofs.BesideLemmas.{IsBesideBelow}
use Rattle.nor_cells.proofs.beside.mark_beside.Given as goal

abbrev pub invariant-loop-c : goal.invariant-loop-c
invariant-loop-c l = MarkedBy (IsBesideBelow (IsMarkedCell l.touched) l.content l.c) l.fn.marks l.marks
