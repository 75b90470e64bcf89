-- The first clocks are drawn.
use Rattle.std.proofs.Common.{◌≡◌, ◌≤◌, ◌*◌, drop}
use Rattle.nor_waves.specs.Ticks.{clocks_ticks}
use Rattle.nor_waves.proofs.DrawLemmas.{AreDrawn}
use Rattle.nor_waves.proofs.drawing.Drawing.put_clocks.Given as goal

abbrev pub invariant-loop-symbol : goal.invariant-loop-symbol
invariant-loop-symbol g l = record {
  drawn : AreDrawn l.fn.self (clocks_ticks l.expect 0 l.clocks) (g.W.ByteOut.held l.fn.out) (g.W.ByteOut.held l.out) l.at
      (clocks_ticks l.expect l.place (drop l.symbol-index l.clocks));
  few : l.place ≤ 4 * l.symbol-index;
  count : g.W.ByteOut.count l.out ≡ g.W.ByteOut.count l.fn.out;
}
