use Rattle.nor_sheet.proofs.ApartLemmas.{not_both, one_fault, one_meaning}
use Rattle.nor_sheet.proofs.laws.sheets_apart.Goals as goal

pub returns-clause-meaning : goal.returns-clause-meaning
returns-clause-meaning c = one_meaning

pub returns-clause-fault : goal.returns-clause-fault
returns-clause-fault c = one_fault

pub returns-clause-apart : goal.returns-clause-apart
returns-clause-apart c = not_both
