-- The earliest so far, and its page.
use Rattle.std.proofs.Common.{◌≡◌, ◌∷◌, true, [], drop}
use Rattle.nor_check.specs.Chips.{one_like, last_settled}
use Rattle.nor_check.specs.Order.{earlier}
use Rattle.nor_check.specs.Outcome.{at_end}
use Rattle.nor_check.specs.Pages.{IsJudgedBy, worst_of}
use Rattle.nor_check.proofs.pages.page_of_earliest.Given as goal

abbrev pub invariant-loop-chips : goal.invariant-loop-chips
invariant-loop-chips l = record {
  earliest : worst_of (λ t. at_end (one_like t.kind [] true) l.target l.steps (last_settled t.chips)) (l.own ∷ l.all)
      ≡ earlier l.worst (worst_of (λ t. at_end (one_like t.kind [] true) l.target l.steps (last_settled t.chips)) (drop l.chips-index l.all));
  page : IsJudgedBy (λ t. at_end (one_like t.kind [] true) l.target l.steps (last_settled t.chips)) (l.own ∷ l.all) l.worst l.page;
}
