-- The units before this one are written.
use Rattle.std.proofs.Common.{◌≡◌}
use Rattle.nor_steps.proofs.WindowLemmas.{IsSofar}
use Rattle.nor_steps.proofs.writer.StepWriter.write_units.Given as goal

abbrev pub invariant-loop-unit : goal.invariant-loop-unit
invariant-loop-unit g l = record {
  sofar : IsSofar l.fn.self l.self (g.W.InstrOut.held l.fn.out) (g.W.InstrOut.held l.out) l.at l.have l.want l.unit-index l.told;
  count : g.W.InstrOut.count l.out ≡ g.W.InstrOut.count l.fn.out;
}
