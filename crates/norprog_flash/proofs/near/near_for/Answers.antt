-- The task is the job's.
use Rattle.std.proofs.Common.{◌≡◌, ◌∙◌, ℕ, true, subst, sym}
use Rattle.nor_job.specs.Causes.{RefusesInputs}
use Rattle.nor_job.specs.Task.{Task}
use Rattle.norprog_flash.specs.Near.{All, Around, Spans, Unspanned, goes_near}
use Rattle.norprog_flash.proofs.NearLemmas.{own_image}
use Rattle.norprog_flash.proofs.near.near_for.Goals as goal

pub returns-then-not-goes_near-clause-near : goal.returns-then-not-goes_near-clause-near
returns-then-not-goes_near-clause-near c = All (sym c.if-not-goes_near.ensures)

pub returns-in-Ok-clause-near : goal.returns-in-Ok-clause-near
returns-in-Ok-clause-near c =
    let near : goes_near c.args.job.now ≡ true = sym c.if-not-goes_near.ensures in
    Around c.in-Ok.span near (subst (λ (t : Task). Spans t c.in-Ok.span) (c.inputs_for-inputs.ensures ∙ own_image c.args.job.now 0 near) c.in-Ok.ensures.spans)

pub returns-in-Err-clause-refused : goal.returns-in-Err-clause-refused
returns-in-Err-clause-refused c =
    let near : goes_near c.args.job.now ≡ true = sym c.if-not-goes_near.ensures in
    Unspanned c.in-Err.why near
    (subst (λ (t : Task). (len : ℕ) → RefusesInputs t len c.in-Err.why) (c.inputs_for-inputs.ensures ∙ own_image c.args.job.now 0 near) c.in-Err.ensures.refused)
