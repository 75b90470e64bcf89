-- No step yet.
use Rattle.std.proofs.Common.{refl, sym, ◌∙◌, ap, subst, arith}
use Rattle.nor_check.specs.Chips.{begun}
use Rattle.nor_check.specs.Outcome.{trial}
use Rattle.nor_check.specs.Pages.{HaveSize, judged_each}
use Rattle.nor_check.specs.Worst.{IsWorst}
use Rattle.nor_check.proofs.Ends.{yes_exactly}
use Rattle.nor_check.proofs.Feeding.{before_any}
use Rattle.nor_check.proofs.Spread.{size_each}
use Rattle.nor_check.proofs.Witnessed.{begins_counted, begins_shown}
use Rattle.nor_check.proofs.WorstPages.{worst_of_each}
use Rattle.nor_check.proofs.checker.StepChecker.new.Goals as goal

pub invariant_of-result : goal.invariant_of-result
invariant_of-result c = (
  λ none.
      subst (HaveSize c.args.meaning.now.size) (sym c.new.ensures)
      (size_each c.args.meaning.now.size (begun c.args.meaning.now c.args.start c.args.meaning.now.page c.args.have.items) refl),
  omega arith,
)

pub returns-clause-worst : goal.returns-clause-worst
returns-clause-worst c = λ want steps.
    subst (IsWorst (trial c.args.meaning.now c.args.start c.args.have.items want steps))
    (ap (λ ts. judged_each want ts steps) (sym c.new.ensures) ∙ before_any _ want c.new.result c.meaning.inside.page steps)
    (worst_of_each (trial c.args.meaning.now c.args.start c.args.have.items want steps) c.polls.ensures.ends c.verifying_reads.ensures)

pub returns-clause-yes : goal.returns-clause-yes
returns-clause-yes c = λ want steps sized.
    yes_exactly c.args.meaning.now c.args.start c.args.have.items want steps _ c.effects.ensures.keeps c.polls.ensures.ends
    (c.requires.contents.0 ∙ sym sized) (returns-clause-worst c want steps)

pub returns-clause-shown : goal.returns-clause-shown
returns-clause-shown c = λ want steps step why w h n low.
    begins_shown _ (trial c.args.meaning.now c.args.start c.args.have.items want steps) step why _ w n c.polls.ensures.ends c.verifying_reads.ensures
    c.new.result c.new.ensures h low

pub returns-clause-counted : goal.returns-clause-counted
returns-clause-counted c = λ want steps step why w h.
    begins_counted _ want c.new.result steps step why _ w h
