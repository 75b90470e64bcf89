-- What stops the second reading is told of its text.
use Rattle.std.proofs.Common.{sym, subst}
use Rattle.norprog_run.specs.Kind.{kind_setting}
use Rattle.nor_job.specs.Written.{passed}
use Rattle.norprog_run.specs.Play.{ready_run}
use Rattle.norprog_run.specs.Stream.{StopsText}
use Rattle.norprog_run.proofs.StreamLemmas.{fault_told}
use Rattle.norprog_run.proofs.stream.play_on.Goals as goal

pub returns-in-Err-clause-stopped : goal.returns-in-Err-clause-stopped
returns-in-Err-clause-stopped g c =
    let told = g.W.ByteOut.held c.args.out.now in
    let by = passed (g.A.ByteIn.ahead c.args.script.now) (g.A.ByteIn.ahead c.play_text.new.script) told told in
    let run = ready_run (kind_setting c.args.kind.now c.args.bench) c.args.array.items c.args.bench.limit in
    subst (StopsText by run) (sym c.refusal_of.ensures) (fault_told by run c.in-Err.fault c.in-Err.ensures.refused c.in-Err.ensures.gave)
