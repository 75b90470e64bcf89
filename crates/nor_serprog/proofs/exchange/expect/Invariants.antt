-- The bytes so far were those that are wanted.
use Rattle.std.proofs.Common.{◌≡◌, length, take}
use Rattle.nor_base.specs.Device.{Gives}
use Rattle.nor_serprog.proofs.exchange.expect.Given as goal

abbrev pub invariant-loop-place : goal.invariant-loop-place
invariant-loop-place g l = record {
  given : Gives (g.R.ByteIn.ahead l.fn.from) (take l.place l.want) (g.R.ByteIn.ahead l.from);
  count : g.R.ByteIn.count l.from ≡ g.R.ByteIn.count l.fn.from;
  one : length l.got ≡ 1;
}
