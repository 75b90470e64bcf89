-- A text has one list of steps, and a play of a good run ends as the run does or waits in vain.
use Rattle.norprog_laws.proofs.PlayLemmas.{built_plays}
use Rattle.norprog_laws.proofs.built_plays.Goals as goal

pub returns : goal.returns
returns c = built_plays c.script_texts.ensures.one_list
