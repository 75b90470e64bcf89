-- The law.
use Rattle.nor_script.proofs.FaultlessLemmas.{faultless}
use Rattle.nor_script.proofs.laws.faultless_scripts.Goals as goal

pub returns : goal.returns
returns c = faultless c.script_texts.ensures.apart
