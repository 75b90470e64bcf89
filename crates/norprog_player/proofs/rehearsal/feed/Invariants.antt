-- What the checker says of others it said of these steps and those.
use Rattle.std.proofs.Common.{◌≡◌, ◌+◌, ◌++◌, ℕ, List, drop}
use Rattle.nor_base.specs.declared.step.Step.{Step}
use Rattle.nor_check.specs.Fed.{to_come}
use Rattle.norprog_player.proofs.rehearsal.feed.Given as goal

abbrev pub invariant-loop-step : goal.invariant-loop-step
invariant-loop-step l = record {
  says : (want : List ℕ) (more : List Step) → to_come l.checker want (drop l.step-index l.steps ++ more) ≡ to_come l.fn.checker want (l.steps ++ more);
  number : l.checker.number ≡ l.fn.checker.number + l.step-index;
  size : l.checker.size ≡ l.fn.checker.size;
}
