-- The cells so far are blank and not touched.
use Rattle.nor_cells.proofs.BesideLemmas.{AreBare}
use Rattle.nor_cells.proofs.beside.touched_above.Given as goal

abbrev pub invariant-loop-d : goal.invariant-loop-d
invariant-loop-d l = AreBare l.touched l.content l.c l.d
