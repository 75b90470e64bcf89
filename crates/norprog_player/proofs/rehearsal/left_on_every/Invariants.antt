-- What the checker says of the steps that are ahead it says of all.
use Rattle.std.proofs.Common.{◌≡◌, ◌+◌, ℕ, List, length}
use Rattle.nor_base.specs.Run.{DoesTaskOnEvery}
use Rattle.nor_check.specs.Fed.{to_come}
use Rattle.nor_check.specs.declared.verdict.Verdict.TheVariants.{Yes}
use Rattle.norprog_player.proofs.rehearsal.left_on_every.Given as goal

abbrev pub invariant-loop-ahead : goal.invariant-loop-ahead
invariant-loop-ahead l = record {
  yes : (want : List ℕ) → length want ≡ l.fn.meaning.size → to_come l.checker want l.ahead ≡ Yes
      → DoesTaskOnEvery l.fn.meaning l.fn.start l.fn.content want l.fn.steps;
  number : l.checker.number + length l.ahead ≡ length l.fn.steps;
  size : l.checker.size ≡ l.fn.meaning.size;
  all : l.all ≡ length l.fn.steps;
}

abbrev pub decreases-loop-ahead : goal.decreases-loop-ahead
decreases-loop-ahead l = length l.ahead
