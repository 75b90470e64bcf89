-- What is left of the words is to begin what is left of the row.
use Rattle.std.proofs.Common.{◌≡◌, [], ◌∷◌, ◌++◌, drop}
use Rattle.std.specs.Prelude.{nat_eq}
use Rattle.std.specs.List.{starts_with}
use Rattle.norprog_details.specs.Explained.{in_a_row}
use Rattle.norprog_details.proofs.matching.begins_with.Given as goal

abbrev pub invariant-loop-argument : goal.invariant-loop-argument
invariant-loop-argument l =
    starts_with nat_eq (in_a_row l.asked) (l.fn.words ++ 32 ∷ []) ≡ starts_with nat_eq (in_a_row (drop l.argument-index l.asked)) (l.left ++ 32 ∷ [])
