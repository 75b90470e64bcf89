-- The verdict to come is that of all steps, and whatever shows it shows that of all.
use Rattle.std.proofs.Common.{◌≡◌, ℕ, ◌<◌, ◌==◌, drop, length}
use Rattle.nor_check.specs.declared.verdict.Why.{Why}
use Rattle.nor_check.specs.declared.verdict.Verdict.TheVariants.{No}
use Rattle.nor_check.specs.declared.verdict.Witness.{Witness}
use Rattle.nor_check.specs.Fed.{IsShown, to_come}
use Rattle.nor_check.specs.Witness.{Witnesses, even}
use Rattle.nor_check.specs.Outcome.{trial}
use Rattle.nor_check.specs.Worst.{IsWorst}
use Rattle.nor_check.proofs.checker.check_shown.Given as goal

abbrev pub invariant-loop-step : goal.invariant-loop-step
invariant-loop-step l = record {
  worst : IsWorst (trial l.meaning l.start l.have l.want l.steps) (to_come l.checker l.want (drop l.step-index l.steps));
  shown : (step : ℕ) (why : Why) (w : Witness) → IsShown l.checker l.want (drop l.step-index l.steps) (No step why) w → (n : ℕ) → w.reads < n
      → Witnesses (trial l.meaning l.start l.have l.want l.steps) step why (even n (step == length l.steps) w.page);
  number : l.checker.number ≡ l.step-index;
  size : l.checker.size ≡ l.meaning.size;
}
