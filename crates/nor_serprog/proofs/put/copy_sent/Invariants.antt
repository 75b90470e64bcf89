-- The bytes so far are copied.
use Rattle.std.proofs.Common.{◌≡◌, take, drop}
use Rattle.nor_base.specs.Decoding.{bytes_of_bits}
use Rattle.nor_serprog.proofs.put.copy_sent.Given as goal

abbrev pub invariant-loop-place : goal.invariant-loop-place
invariant-loop-place l = take l.place l.part ≡ take l.place (drop l.from (bytes_of_bits l.bits))
