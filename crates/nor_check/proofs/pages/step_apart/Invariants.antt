-- What the chips so far did, and then the others.
use Rattle.std.proofs.Common.{◌≡◌, ◌∷◌, take, drop, length}
use Rattle.nor_check.specs.View.{step_of}
use Rattle.nor_check.specs.Pages.{IsToldBy, each_step}
use Rattle.nor_check.proofs.Each.{in_front}
use Rattle.nor_check.proofs.pages.step_apart.Given as goal

abbrev pub invariant-loop-chips : goal.invariant-loop-chips
invariant-loop-chips l = record {
  told : each_step (l.fn.own ∷ l.fn.others.items) (step_of l.step)
      ≡ in_front l.answer (l.own ∷ take l.chips-index l.chips-items) (each_step (drop l.chips-index l.chips-items) (step_of l.step));
  same : length l.chips-items ≡ length l.fn.others.items;
  rest : drop l.chips-index l.chips-items ≡ drop l.chips-index l.fn.others.items;
  page : IsToldBy (l.fn.own ∷ l.fn.others.items) l.answer (step_of l.step) l.told;
}
