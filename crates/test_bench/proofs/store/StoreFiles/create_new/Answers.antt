-- None is made.
use Rattle.norprog_files.specs.Files.{Unusable}
use Rattle.test_bench.proofs.store.StoreFiles.create_new.Goals as goal

pub returns-in-None-clause-refused : goal.returns-in-None-clause-refused
returns-in-None-clause-refused c = Unusable
