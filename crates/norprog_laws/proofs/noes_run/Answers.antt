-- The law.
use Rattle.norprog_laws.proofs.ShownLemmas.{no_is_run}
use Rattle.norprog_laws.proofs.noes_run.Goals as goal

pub returns : goal.returns
returns c = no_is_run c.script_texts.ensures.one_list c.replay.ensures
