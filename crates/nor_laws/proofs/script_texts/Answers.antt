-- A text is that of one list of steps.
use Rattle.nor_laws.proofs.ScriptLaws.{texts_apart, one_list, no_proper_prefix, lines_same}
use Rattle.nor_laws.proofs.script_texts.Goals as goal

pub returns-clause-one_list : goal.returns-clause-one_list
returns-clause-one_list c = one_list

pub returns-clause-apart : goal.returns-clause-apart
returns-clause-apart c = texts_apart

pub returns-clause-no_proper_prefix : goal.returns-clause-no_proper_prefix
returns-clause-no_proper_prefix c = no_proper_prefix

pub returns-clause-lines : goal.returns-clause-lines
returns-clause-lines c = lines_same
