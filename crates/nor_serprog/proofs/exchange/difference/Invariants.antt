-- The bytes so far are alike.
use Rattle.std.proofs.Common.{◌≡◌, take}
use Rattle.nor_serprog.proofs.exchange.difference.Given as goal

abbrev pub invariant-loop-place : goal.invariant-loop-place
invariant-loop-place l = take l.place l.got ≡ take l.place l.want
