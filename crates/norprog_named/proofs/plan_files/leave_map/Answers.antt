-- The file is closed as it was made.
use Rattle.std.proofs.Common.{[]}
use Rattle.norprog_files.proofs.FilesLemmas.{adds_none, closed}
use Rattle.norprog_named.proofs.PlanLemmas.{left, none_left}
use Rattle.norprog_named.proofs.plan_files.leave_map.Goals as goal

pub returns-in-Some : goal.returns-in-Some
returns-in-Some g c path made was =
    let map = c.in-Some.field-0 in
    let some = rw c.in-Some.is at was in
    (_, c.close.ensures.did, left _ some (closed c.close.result map.out.path.now (g.F.Output.ByteOut.held map.file)))

pub returns-in_default : goal.returns-in_default
returns-in_default g c path made was =
    let none = rw c.in_default.is at was in
    ([], adds_none _, none_left none)
