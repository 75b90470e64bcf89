-- What came so far stands at the front of the buffer.
use Rattle.std.proofs.Common.{◌-◌, ◌≡◌, ◌≤◌, length, take}
use Rattle.nor_base.specs.Device.{Gives}
use Rattle.nor_base.proofs.transfer.fill_from.Given as goal

abbrev pub invariant-loop-done : goal.invariant-loop-done
invariant-loop-done g l = record {
  within : l.done ≤ length l.buffer;
  given : Gives (g.R.ByteIn.ahead l.fn.reader) (take l.done l.buffer) (g.R.ByteIn.ahead l.reader);
  count : g.R.ByteIn.count l.reader ≡ g.R.ByteIn.count l.fn.reader;
}

abbrev pub decreases-loop-done : goal.decreases-loop-done
decreases-loop-done g l = length l.initial.buffer - l.done
