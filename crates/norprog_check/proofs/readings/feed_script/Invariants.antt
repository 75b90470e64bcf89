-- The checker was fed with the steps that came.
use Rattle.std.proofs.Common.{◌≡◌, ◌-◌, ◌^◌, [], List, length}
use Rattle.nor_base.specs.declared.step.Step.{Step}
use Rattle.nor_script.specs.Stream.{reading, HasRead}
use Rattle.norprog_check.proofs.ReadingLemmas.{IsFedWith, ShowsWith}
use Rattle.norprog_check.proofs.readings.feed_script.Given as goal

abbrev pub invariant-loop-reader : goal.invariant-loop-reader
invariant-loop-reader g l = record {
  above : List Step;
  read : HasRead (reading (g.A.ByteIn.ahead l.fn.script) []) (reading (g.A.ByteIn.ahead l.script) l.reader.held) above;
  number : l.reader.steps ≡ length above;
  fed : l.checker.number ≡ length above;
  size : l.checker.size ≡ l.fn.checker.size;
  told : IsFedWith l.want l.fn.checker l.checker above;
  shown : ShowsWith l.want l.fn.checker l.checker above;
  count : g.A.ByteIn.count l.script ≡ g.A.ByteIn.count l.fn.script;
}

abbrev pub decreases-loop-reader : goal.decreases-loop-reader
decreases-loop-reader g l = 2 ^ 62 - l.reader.steps
