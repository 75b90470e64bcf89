-- The requests so far fit.
use Rattle.std.proofs.Common.{◌≡◌, ℕ, ◌+◌, List, length, take}
use Rattle.nor_serprog.specs.Follow.{most_ahead}
use Rattle.nor_serprog.specs.Row.{AreAsked}
use Rattle.nor_serprog.proofs.row.ahead_count.Given as goal

abbrev pub invariant-loop-count : goal.invariant-loop-count
invariant-loop-count l =
    (put : List ℕ) × AreAsked l.limits 1 (take l.count l.steps) put × (length put + l.room ≡ most_ahead l.limits)
