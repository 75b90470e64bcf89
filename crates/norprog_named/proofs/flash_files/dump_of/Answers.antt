-- The dump of the file, where there is one.
use Rattle.norprog_named.specs.Flash.{NoDump, OfFile}
use Rattle.norprog_named.proofs.flash_files.dump_of.Goals as goal

pub returns-in_ok-dump_in-in-Some-clause-dump : goal.returns-in_ok-dump_in-in-Some-clause-dump
returns-in_ok-dump_in-in-Some-clause-dump c = rw c.in-Some.is (OfFile _ _ c.in_ok-dump_in-in-Some.ensures.dump)

pub returns-in-None-clause-dump : goal.returns-in-None-clause-dump
returns-in-None-clause-dump c = rw c.in-None.is NoDump
