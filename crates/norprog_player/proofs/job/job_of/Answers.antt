-- Where the inputs give no such chip nothing was read.
use Rattle.std.proofs.Common.{ap, subst}
use Rattle.nor_base.proofs.FaultLaws.{handed_on}
use Rattle.nor_base.specs.Parameters.{Parameters}
use Rattle.norprog_common.specs.Content.{StopsReading}
use Rattle.norprog_player.proofs.SizeLemmas.{counts_size, gives_none, stops_content}
use Rattle.norprog_player.specs.Job.{RefusesJob, source, sources}
use Rattle.norprog_player.proofs.job.job_of.Goals as goal

pub returns-in_err-meaning-clause-counts : goal.returns-in_err-meaning-clause-counts
returns-in_err-meaning-clause-counts g c =
    let counted = counts_size c.args.inputs.now c.args.len _ _ c.from_residual.result c.in_err-meaning.field-0.0 c.from_residual.ensures.1 c.in_err-meaning.ensures.refused in
    (counted.0, counted.1, gives_none _)

pub returns-in_err-content-clause-refused : goal.returns-in_err-content-clause-refused
returns-in_err-content-clause-refused g c =
    let s = sources c.args.inputs.now c.args.len (source (g.A.ByteIn.ahead c.args.script.now) (g.A.ByteIn.ahead c.steps_of.new.script))
    (source (g.R.ByteIn.ahead c.args.content.now) (g.R.ByteIn.ahead c.read_content.new.content)) in
    handed_on (RefusesJob s) _ _ c.from_residual-in_err-content.ensures.1
    (stops_content s c.in_ok-meaning.meaning c.in_ok-meaning.ensures.sized c.in_ok-steps.ensures.spelled c.in_err-content.field-0.0
    (subst (λ n. StopsReading n (g.R.ByteIn.ahead c.args.content.now) (g.R.ByteIn.ahead c.read_content.new.content) c.in_err-content.field-0.0)
    (ap (λ (m : Parameters). m.size) c.meaning.view_is) c.in_err-content.ensures.stopped))
