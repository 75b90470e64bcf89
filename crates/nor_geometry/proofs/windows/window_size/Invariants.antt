use Rattle.nor_geometry.proofs.WindowLemmas.{IsGreatestBelow}
use Rattle.nor_geometry.proofs.windows.window_size.Given as goal

-- the greatest of the kinds so far
abbrev pub invariant-loop-kind : goal.invariant-loop-kind
invariant-loop-kind l = IsGreatestBelow l.meaning l.kind l.window
