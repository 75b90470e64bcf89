-- All bytes so far are blank.
use Rattle.nor_cells.specs.Edges.{IsFrontBlank}
use Rattle.nor_cells.proofs.edges.first_held.Given as goal

abbrev pub invariant-loop-at : goal.invariant-loop-at
invariant-loop-at l = IsFrontBlank l.content l.at
