-- The first match in the instruction table is the only one.
use Rattle.nor_laws.proofs.TableLaws.{row_is_there, row_is_found, one_row}
use Rattle.nor_laws.proofs.instruction_rows.Goals as goal

pub returns-clause-one : goal.returns-clause-one
returns-clause-one c = one_row

pub returns-clause-found : goal.returns-clause-found
returns-clause-found c = row_is_there

pub returns-clause-finds : goal.returns-clause-finds
returns-clause-finds c = row_is_found
