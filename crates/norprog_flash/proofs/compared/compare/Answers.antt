-- The first difference, or none.
use Rattle.std.proofs.Common.{List, ℕ, subst, ◌∙◌}
use Rattle.norprog_flash.specs.Compared.{Alike, IsFirstDifference, Unlike}
use Rattle.norprog_flash.proofs.compared.compare.Goals as goal

pub returns-in-None-clause-compared : goal.returns-in-None-clause-compared
returns-in-None-clause-compared c = record {
  goal = c.in_ok-goal.goal;
  target = c.in_ok-goal.ensures.goal;
  compares = Alike (c.in-None.ensures ∙ c.as_slice-want.ensures.value);
}

pub returns-clause-compared : goal.returns-clause-compared
returns-clause-compared c =
    let want = c.as_slice-want.ensures.value in
    record {
      goal = c.in_ok-goal.goal;
      target = c.in_ok-goal.ensures.goal;
      compares =
          rw (c.differing.ensures, want)
          (Unlike c.in-Some.at (subst (λ (w : List ℕ). IsFirstDifference c.args.content.now w c.in-Some.at) want c.in-Some.ensures));
    }
