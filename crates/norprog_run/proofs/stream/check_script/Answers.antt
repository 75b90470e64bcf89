-- What stops the reading is told of its text.
use Rattle.std.proofs.Common.{sym, subst}
use Rattle.norprog_run.specs.Stream.{RefusesScript}
use Rattle.norprog_run.proofs.StreamLemmas.{script_told}
use Rattle.norprog_run.proofs.stream.check_script.Goals as goal

pub returns-in-Err-clause-refused : goal.returns-in-Err-clause-refused
returns-in-Err-clause-refused g c =
    subst (RefusesScript (g.A.ByteIn.ahead c.args.script.now) (g.A.ByteIn.ahead c.look_through.new.script)) (sym c.refusal_of.ensures)
    (script_told _ _ c.in-Err.fault c.in-Err.ensures.stopped c.in-Err.ensures.gave)
