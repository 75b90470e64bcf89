-- The first ticks are drawn.
use Rattle.std.proofs.Common.{◌≡◌, drop}
use Rattle.nor_waves.proofs.DrawLemmas.{AreDrawn}
use Rattle.nor_waves.proofs.drawing.Drawing.put_ticks.Given as goal

abbrev pub invariant-loop-now : goal.invariant-loop-now
invariant-loop-now g l = record {
  drawn : AreDrawn l.fn.self l.ticks (g.W.ByteOut.held l.fn.out) (g.W.ByteOut.held l.out) l.at (drop l.now-index l.ticks);
  count : g.W.ByteOut.count l.out ≡ g.W.ByteOut.count l.fn.out;
}
