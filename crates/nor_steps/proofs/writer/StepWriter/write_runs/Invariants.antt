-- The steps of the runs before this one are written.
use Rattle.std.proofs.Common.{◌≡◌, ◌≤◌, ◌*◌, take}
use Rattle.nor_steps.specs.Units.{run_ops}
use Rattle.nor_steps.proofs.OpLemmas.{Done}
use Rattle.nor_steps.proofs.writer.StepWriter.write_runs.Given as goal

abbrev pub invariant-loop-run : goal.invariant-loop-run
invariant-loop-run g l = record {
  done : Done l.fn.self l.self (g.W.InstrOut.held l.fn.out) (g.W.InstrOut.held l.out) (run_ops l.read l.start l.want (take l.run-index l.runs)) l.steps;
  few : l.steps ≤ 6 * l.run-index;
  count : g.W.InstrOut.count l.out ≡ g.W.InstrOut.count l.fn.out;
}
