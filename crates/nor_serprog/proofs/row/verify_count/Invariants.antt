-- The steps so far verify.
use Rattle.std.proofs.Common.{◌≡◌, true, take}
use Rattle.std.specs.List.{list_all}
use Rattle.nor_base.specs.Step.{verifies}
use Rattle.nor_serprog.proofs.row.verify_count.Given as goal

abbrev pub invariant-loop-count : goal.invariant-loop-count
invariant-loop-count l = list_all verifies (take l.count l.steps) ≡ true
