-- One more option.
use Rattle.norprog_options.proofs.TableLemmas.{more_options}
use Rattle.norprog_options.proofs.commands.with_choices.Goals as goal

pub loop-choice-preserved : goal.loop-choice-preserved
loop-choice-preserved c = more_options _ _ _ _ _ _ _ c.loop-choice-test.true c.loop-choice.invariant
    (c.in_ok-command.ensures.shape c.argument_of.ensures.local) c.argument_of.ensures.rule
