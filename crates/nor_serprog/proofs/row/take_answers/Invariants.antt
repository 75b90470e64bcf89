-- The answers of the steps so far were taken.
use Rattle.std.proofs.Common.{◌≡◌, take}
use Rattle.nor_serprog.specs.Row.{TakesAnswers}
use Rattle.nor_serprog.proofs.row.take_answers.Given as goal

abbrev pub invariant-loop-step : goal.invariant-loop-step
invariant-loop-step g l = record {
  taken : TakesAnswers (g.R.ByteIn.ahead l.fn.from) (g.R.ByteIn.ahead l.from) (take l.step-index l.steps);
  reads : g.R.ByteIn.count l.from ≡ g.R.ByteIn.count l.fn.from;
  number : l.number ≡ l.step-index;
}
