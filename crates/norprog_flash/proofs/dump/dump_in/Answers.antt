-- The file's bytes, or those that its text gives.
use Rattle.std.proofs.Common.{refl}
use Rattle.norprog_flash.specs.Dump.{AllOfIt}
use Rattle.norprog_flash.proofs.DumpLemmas.{part_given, run_refused, text_refused}
use Rattle.norprog_flash.proofs.dump.dump_in.Goals as goal

pub returns-then-not-part-clause-dump : goal.returns-then-not-part-clause-dump
returns-then-not-part-clause-dump c = rw c.if-not-part.true (AllOfIt _ refl refl)

pub returns-in-Ok-clause-dump : goal.returns-in-Ok-clause-dump
returns-in-Ok-clause-dump c =
    rw c.if-not-part.false (part_given c.args.bytes.items c.in-Ok.image c.only_run.result (rw c.as_slice.ensures.value at c.in-Ok.ensures.image) c.only_run.ensures.just)

pub returns-in-Ok-clause-refused : goal.returns-in-Ok-clause-refused
returns-in-Ok-clause-refused c =
    rw c.if-not-part.false
    (run_refused c.args.bytes.items c.in-Ok.image c.only_run.result (rw c.as_slice.ensures.value at c.in-Ok.ensures.image) c.only_run.ensures.refused)

pub returns-clause-refused : goal.returns-clause-refused
returns-clause-refused c =
    rw c.if-not-part.false
    (text_refused c.args.bytes.items c.in-Err.fault c.unread.result (rw c.as_slice.ensures.value at c.in-Err.ensures.fault) c.unread.ensures)
