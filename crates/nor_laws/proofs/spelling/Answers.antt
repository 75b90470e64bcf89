-- An instruction has just one list of clocks.
use Rattle.nor_laws.proofs.SpelledLaws.{has_spelling}
use Rattle.nor_laws.proofs.SingleLaws.{one_spelling, same_spelling, poll_is_fixed}
use Rattle.nor_laws.proofs.spelling.Goals as goal

pub returns-clause-has : goal.returns-clause-has
returns-clause-has c = has_spelling

pub returns-clause-one : goal.returns-clause-one
returns-clause-one c = one_spelling

pub returns-clause-same : goal.returns-clause-same
returns-clause-same c = same_spelling

pub returns-clause-poll : goal.returns-clause-poll
returns-clause-poll c = poll_is_fixed
