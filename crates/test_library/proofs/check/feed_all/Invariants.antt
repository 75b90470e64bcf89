-- The chips' size stays.
use Rattle.std.proofs.Common.{◌≡◌}
use Rattle.test_library.proofs.check.feed_all.Given as goal

abbrev pub invariant-loop-step : goal.invariant-loop-step
invariant-loop-step g l = l.checker.size ≡ l.fn.checker.size
