-- The values so far are there.
use Rattle.std.proofs.Common.{◌≡◌, length, take}
use Rattle.nor_serprog.specs.Line.{all_values}
use Rattle.nor_serprog.proofs.line.all_values.Given as goal

abbrev pub invariant-loop-place : goal.invariant-loop-place
invariant-loop-place l = record { same : take l.place l.values ≡ take l.place all_values; long : length l.values ≡ 256 }
