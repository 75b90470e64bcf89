use Rattle.std.proofs.Common.{◌≡◌}
use Rattle.std.specs.Io.KnownBytes.{Appends}
use Rattle.norprog_script.proofs.TextLemmas.{first_lines}
use Rattle.norprog_script.proofs.text.write_script.Given as goal

-- the header and the lines of the steps so far are written
abbrev pub invariant-loop-step : goal.invariant-loop-step
invariant-loop-step g l = record {
  written : Appends (g.W.ByteOut.held l.fn.out) (g.W.ByteOut.held l.out) (first_lines l.steps l.step-index);
  count : g.W.ByteOut.count l.out ≡ g.W.ByteOut.count l.fn.out;
}
