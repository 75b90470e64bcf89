-- The steps of the reads of the pages before this one are written.
use Rattle.std.proofs.Common.{◌≡◌, ◌≤◌, ◌*◌, map}
use Rattle.nor_base.specs.Units.{pages}
use Rattle.nor_steps.specs.Units.{page_read}
use Rattle.nor_steps.proofs.OpLemmas.{Done}
use Rattle.nor_steps.proofs.writer.StepWriter.write_reads.Given as goal

abbrev pub invariant-loop-number : goal.invariant-loop-number
invariant-loop-number g l = record {
  done : Done l.fn.self l.self (g.W.InstrOut.held l.fn.out) (g.W.InstrOut.held l.out) (map (page_read l.start l.page l.want) (pages l.page l.start l.number)) l.steps;
  few : l.steps ≤ 6 * l.number;
  count : g.W.InstrOut.count l.out ≡ g.W.InstrOut.count l.fn.out;
}
