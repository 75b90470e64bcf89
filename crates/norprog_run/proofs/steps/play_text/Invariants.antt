-- These steps were read, and were played as far as the play goes.
use Rattle.std.proofs.Common.{◌≡◌, ◌≤◌, ◌-◌, ◌^◌, [], List, length}
use Rattle.nor_base.specs.declared.step.Step.{Step}
use Rattle.nor_script.specs.Stream.{reading, HasRead}
use Rattle.norprog_run.proofs.StepsLemmas.{Stands}
use Rattle.norprog_run.proofs.steps.play_text.Given as goal

abbrev pub invariant-loop-reader : goal.invariant-loop-reader
invariant-loop-reader g l = record {
  above : List Step;
  read : HasRead (reading (g.A.ByteIn.ahead l.fn.script) []) (reading (g.A.ByteIn.ahead l.script) l.reader.held) above;
  number : l.reader.steps ≡ length above;
  stands : Stands l.fn.chip l.chip l.limit above l.player l.wrong;
  few : l.reader.steps ≤ 2 ^ 62;
  count : g.A.ByteIn.count l.script ≡ g.A.ByteIn.count l.fn.script;
}

abbrev pub decreases-loop-reader : goal.decreases-loop-reader
decreases-loop-reader g l = 2 ^ 62 - l.reader.steps
