-- The verdict to come is that of all steps.
use Rattle.std.proofs.Common.{◌≡◌, drop}
use Rattle.std.specs.Prelude.{◌↔◌}
use Rattle.nor_base.specs.Run.{DoesTaskOnEvery}
use Rattle.nor_check.specs.declared.verdict.Verdict.TheVariants.{Yes}
use Rattle.nor_check.specs.Fed.{to_come}
use Rattle.nor_check.specs.Outcome.{trial}
use Rattle.nor_check.specs.Worst.{IsWorst}
use Rattle.nor_check.proofs.checker.check.Given as goal

abbrev pub invariant-loop-step : goal.invariant-loop-step
invariant-loop-step l = record {
  worst : IsWorst (trial l.meaning l.start l.have l.want l.steps) (to_come l.checker l.want (drop l.step-index l.steps));
  yes : (to_come l.checker l.want (drop l.step-index l.steps) ≡ Yes) ↔ DoesTaskOnEvery l.meaning l.start l.have l.want l.steps;
  number : l.checker.number ≡ l.step-index;
  size : l.checker.size ≡ l.meaning.size;
}
