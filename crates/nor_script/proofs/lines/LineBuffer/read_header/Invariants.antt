-- Nothing was read yet.
use Rattle.std.proofs.Common.{◌≡◌, ◌-◌, ◌^◌, [], length}
use Rattle.nor_script.specs.Stream.{reading, Reads}
use Rattle.nor_script.proofs.lines.LineBuffer.read_header.Given as goal

abbrev pub invariant-loop-self : goal.invariant-loop-self
invariant-loop-self g l = record {
  reads : Reads (reading (g.R.ByteIn.ahead l.fn.source) l.fn.self.held) (reading (g.R.ByteIn.ahead l.source) l.self.held) [];
  count : g.R.ByteIn.count l.source ≡ g.R.ByteIn.count l.fn.source;
}

abbrev pub decreases-loop-self : goal.decreases-loop-self
decreases-loop-self g l = 2 ^ 63 - length l.self.held
