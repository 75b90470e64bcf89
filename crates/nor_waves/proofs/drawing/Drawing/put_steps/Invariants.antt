-- The first steps are drawn.
use Rattle.std.proofs.Common.{◌≡◌, drop}
use Rattle.std.specs.Prelude.{flat_map}
use Rattle.nor_waves.specs.Ticks.{step_ticks}
use Rattle.nor_waves.proofs.DrawLemmas.{AreDrawn}
use Rattle.nor_waves.proofs.drawing.Drawing.put_steps.Given as goal

abbrev pub invariant-loop-step : goal.invariant-loop-step
invariant-loop-step g l = record {
  drawn : AreDrawn l.fn.self (flat_map step_ticks l.steps) (g.W.ByteOut.held l.fn.out) (g.W.ByteOut.held l.out) l.at
      (flat_map step_ticks (drop l.step-index l.steps));
  count : g.W.ByteOut.count l.out ≡ g.W.ByteOut.count l.fn.out;
}
