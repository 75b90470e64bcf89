-- No other name is one.
use Rattle.norprog_files.specs.Files.{Unusable}
use Rattle.test_bench.proofs.store.Store.file.Goals as goal

pub returns-in_default : goal.returns-in_default
returns-in_default c = Unusable
