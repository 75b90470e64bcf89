-- What the statuses so far said.
use Rattle.std.proofs.Common.{◌≡◌, length, Ok}
use Rattle.nor_serprog.specs.Follow.{TakesStatuses}
use Rattle.nor_serprog.proofs.follow.take_statuses.Given as goal

abbrev pub invariant-loop : goal.invariant-loop
invariant-loop g l = record {
  taken : TakesStatuses (g.R.ByteIn.ahead l.fn.from) (g.R.ByteIn.ahead l.from) (Ok l.was_idle) l.counter;
  reads : g.R.ByteIn.count l.from ≡ g.R.ByteIn.count l.fn.from;
  one : length l.status ≡ 1;
}
