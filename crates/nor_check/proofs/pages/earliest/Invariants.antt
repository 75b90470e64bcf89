-- The earliest so far.
use Rattle.std.proofs.Common.{◌≡◌, [], true, drop}
use Rattle.nor_check.specs.Chips.{one_like, last_settled}
use Rattle.nor_check.specs.Order.{earlier}
use Rattle.nor_check.specs.Outcome.{at_end}
use Rattle.nor_check.specs.Pages.{worst_of}
use Rattle.nor_check.proofs.pages.earliest.Given as goal

abbrev pub invariant-loop-chips : goal.invariant-loop-chips
invariant-loop-chips l =
    earlier l.fn.own (worst_of (λ t. at_end (one_like t.kind [] true) l.target l.steps (last_settled t.chips)) l.all)
    ≡ earlier l.worst (worst_of (λ t. at_end (one_like t.kind [] true) l.target l.steps (last_settled t.chips)) (drop l.chips-index l.all))
