-- None is made.
use Rattle.std.proofs.Common.{subst, sym}
use Rattle.norprog_common.specs.declared.faults.Refusal.TheVariants.{File}
use Rattle.norprog_files.specs.Files.{Denies, Unusable}
use Rattle.norprog_files.specs.Replaced.{name_of}
use Rattle.test_bench.proofs.store.StoreFiles.create.Goals as goal

pub returns-clause-refused : goal.returns-clause-refused
returns-clause-refused c = subst (λ name. Denies (name_of c.args.kind) (File name)) (sym c.name.ensures) Unusable
