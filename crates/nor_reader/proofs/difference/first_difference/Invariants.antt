-- The bytes so far are the same.
use Rattle.std.proofs.Common.{◌≡◌, take}
use Rattle.nor_reader.proofs.difference.first_difference.Given as goal

abbrev pub invariant-loop-place : goal.invariant-loop-place
invariant-loop-place l = take l.place l.got ≡ take l.place l.want
