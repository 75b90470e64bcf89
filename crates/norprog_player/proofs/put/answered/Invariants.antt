-- The steps so far were answered, and what is left goes well.
use Rattle.std.proofs.Common.{take, drop}
use Rattle.std.specs.Prelude.{All}
use Rattle.nor_serprog.specs.Done.{IsDoable}
use Rattle.norprog_player.specs.Put.{AreAnswered}
use Rattle.norprog_player.proofs.PutLemmas.{GoesOn}
use Rattle.norprog_player.proofs.put.answered.Given as goal

abbrev pub invariant-loop-step : goal.invariant-loop-step
invariant-loop-step l = record {
  put : AreAnswered l.fn.chip (take l.step-index l.steps) l.put l.chip;
  form : All IsDoable l.put;
  rest : GoesOn l.fn.chip l.steps l.chip (drop l.step-index l.steps);
}
