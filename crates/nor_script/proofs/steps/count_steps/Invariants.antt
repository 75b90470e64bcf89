-- Some steps were read.
use Rattle.std.proofs.Common.{◌≡◌, ◌-◌, ◌^◌, List, length, []}
use Rattle.nor_base.specs.declared.step.Step.{Step}
use Rattle.nor_script.specs.Stream.{reading, HasRead}
use Rattle.nor_script.proofs.steps.count_steps.Given as goal

abbrev pub invariant-loop-reader : goal.invariant-loop-reader
invariant-loop-reader g l = record {
  above : List Step;
  read : HasRead (reading (g.R.ByteIn.ahead l.fn.source) []) (reading (g.R.ByteIn.ahead l.source) l.reader.held) above;
  number : l.reader.steps ≡ length above;
  count : g.R.ByteIn.count l.source ≡ g.R.ByteIn.count l.fn.source;
}

abbrev pub decreases-loop-reader : goal.decreases-loop-reader
decreases-loop-reader g l = 2 ^ 62 - l.reader.steps
