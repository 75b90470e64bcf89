-- Some steps were read.
use Rattle.std.proofs.Common.{◌≡◌, ◌-◌, ◌^◌, List, length, []}
use Rattle.nor_base.specs.declared.step.Step.{Step}
use Rattle.nor_script.specs.Stream.{reading, HasRead}
use Rattle.norprog_common.proofs.looked.look_through.Given as goal

abbrev pub invariant-loop-reader : goal.invariant-loop-reader
invariant-loop-reader g l = record {
  above : List Step;
  read : HasRead (reading (g.R.ByteIn.ahead l.fn.script) []) (reading (g.R.ByteIn.ahead l.script) l.reader.held) above;
  number : l.reader.steps ≡ length above;
  count : g.R.ByteIn.count l.script ≡ g.R.ByteIn.count l.fn.script;
}

abbrev pub decreases-loop-reader : goal.decreases-loop-reader
decreases-loop-reader g l = 2 ^ 62 - l.reader.steps
