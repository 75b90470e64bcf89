-- The laws.
use Rattle.norprog_laws.proofs.BuiltLemmas.{built_is_right, built_is_checked}
use Rattle.norprog_laws.proofs.built_scripts.Goals as goal

pub returns-clause-right : goal.returns-clause-right
returns-clause-right c = built_is_right c.script_texts.ensures.one_list

pub returns-clause-checked : goal.returns-clause-checked
returns-clause-checked c = built_is_checked c.script_texts.ensures.one_list
