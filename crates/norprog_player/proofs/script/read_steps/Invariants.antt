-- The steps that came are held.
use Rattle.std.proofs.Common.{◌≡◌, ◌-◌, ◌^◌, [], length}
use Rattle.nor_script.specs.Stream.{reading, HasRead}
use Rattle.norprog_player.proofs.script.read_steps.Given as goal

abbrev pub invariant-loop-reader : goal.invariant-loop-reader
invariant-loop-reader g l = record {
  read : HasRead (reading (g.A.ByteIn.ahead l.fn.script) []) (reading (g.A.ByteIn.ahead l.script) l.reader.held) l.steps;
  number : l.reader.steps ≡ length l.steps;
  count : g.A.ByteIn.count l.script ≡ g.A.ByteIn.count l.fn.script;
}

abbrev pub decreases-loop-reader : goal.decreases-loop-reader
decreases-loop-reader g l = 2 ^ 62 - l.reader.steps
