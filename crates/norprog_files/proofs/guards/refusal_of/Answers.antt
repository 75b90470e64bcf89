-- Out of memory, or the file.
use Rattle.norprog_files.specs.Files.{Unallotted, Unusable}
use Rattle.norprog_files.proofs.guards.refusal_of.Goals as goal

pub returns-then-eq : goal.returns-then-eq
returns-then-eq c = Unallotted

pub returns-else-eq : goal.returns-else-eq
returns-else-eq c = Unusable
