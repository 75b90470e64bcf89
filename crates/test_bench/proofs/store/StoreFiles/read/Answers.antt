-- Memory ran out.
use Rattle.norprog_files.specs.Files.{Unallotted}
use Rattle.test_bench.proofs.store.StoreFiles.read.Goals as goal

pub returns-in-Err-clause-refused : goal.returns-in-Err-clause-refused
returns-in-Err-clause-refused c = Unallotted
