-- What a reader gives in two parts.
use Rattle.nor_base.proofs.DeviceLaws.{Gives-append, first_in_parts}
use Rattle.nor_laws.proofs.readers.Goals as goal

pub returns-clause-parts : goal.returns-clause-parts
returns-clause-parts c = Gives-append

pub returns-clause-first : goal.returns-clause-first
returns-clause-first c = first_in_parts
