-- Pieces that are cut apart show the mode, and a switch makes it.
use Rattle.nor_reader.proofs.TellingLemmas.{apart_knows, entered_holds, mode_shown, said_gives, sure_knows, switch_makes}
use Rattle.nor_reader.proofs.laws.mode_is_shown.Goals as goal

pub returns-clause-shown : goal.returns-clause-shown
returns-clause-shown c = mode_shown

pub returns-clause-knows : goal.returns-clause-knows
returns-clause-knows c = apart_knows

pub returns-clause-sure : goal.returns-clause-sure
returns-clause-sure c = sure_knows

pub returns-clause-gives : goal.returns-clause-gives
returns-clause-gives c = said_gives

pub returns-clause-entered : goal.returns-clause-entered
returns-clause-entered c = entered_holds

pub returns-clause-made : goal.returns-clause-made
returns-clause-made c = switch_makes
