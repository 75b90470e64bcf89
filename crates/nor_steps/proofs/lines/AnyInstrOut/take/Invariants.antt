-- The lines of the instructions before this one were put.
use Rattle.std.proofs.Common.{◌≡◌, take}
use Rattle.std.specs.Io.KnownBytes.{Appends}
use Rattle.nor_steps.specs.Lines.{lines_out}
use Rattle.nor_steps.proofs.lines.AnyInstrOut.take.Given as goal

abbrev pub invariant-loop-instr : goal.invariant-loop-instr
invariant-loop-instr g l = record {
  put : Appends (g.W.ByteOut.held l.fn.self) (g.W.ByteOut.held l.self) (lines_out (take l.instr-index l.instrs));
  count : g.W.ByteOut.count l.self ≡ g.W.ByteOut.count l.fn.self;
}
