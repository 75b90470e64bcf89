-- What the words ask for, whatever the system's files give.
use Rattle.norprog_cli.proofs.answer_system.Goals as goal

pub returns-then-err-clause-ends : goal.returns-then-err-clause-ends
returns-then-err-clause-ends g c = record { begun = _; opened = _; ends = c.answer_given.ensures.ends }

pub returns-clause-ends : goal.returns-clause-ends
returns-clause-ends g c = record { begun = _; opened = _; ends = c.answer_given-else-err.ensures.ends }
