-- What was found is of the inputs.
use Rattle.nor_base.proofs.FaultLaws.{handed_on}
use Rattle.norprog_common.specs.Rules.{Lacking, OutOfMemory}
use Rattle.norprog_common.proofs.RulesLemmas.{breaks_empty, breaks_landless, breaks_length, breaks_stray, chose, err_then, meets_rules, ok_then}
use Rattle.norprog_common.proofs.rules.refuse_job.Goals as goal

pub returns-in-Err-clause-breaks : goal.returns-in-Err-clause-breaks
returns-in-Err-clause-breaks c = OutOfMemory

pub returns-in_err-refuse_length-clause-breaks : goal.returns-in_err-refuse_length-clause-breaks
returns-in_err-refuse_length-clause-breaks c = handed_on _ _ _ c.from_residual.ensures.1 (breaks_length c.requires _ c.in_err-refuse_length.ensures.other)

pub returns-in_err-refuse_empty-clause-breaks : goal.returns-in_err-refuse_empty-clause-breaks
returns-in_err-refuse_empty-clause-breaks c =
    handed_on _ _ _ c.from_residual-in_err-refuse_empty.ensures.1 (breaks_empty _
    (chose c.args.job.now c.requires c.as_slice-chosen.result.now _ c.job.view_is _ c.as_slice-chosen.ensures.value (c.in-Ok.ensures.regions c.requires.regions c.requires.accepted.named.layout))
    c.in_err-refuse_empty.ensures.some)

pub returns-in_err-refuse_partial-clause-breaks : goal.returns-in_err-refuse_partial-clause-breaks
returns-in_err-refuse_partial-clause-breaks c =
    let lacks = c.in_err-refuse_partial.ensures.lacks in
    handed_on _ _ _ c.from_residual-in_err-refuse_partial.ensures.1 (Lacking _ lacks.0 lacks.1)

pub returns-in_err-refuse_stray-clause-breaks : goal.returns-in_err-refuse_stray-clause-breaks
returns-in_err-refuse_stray-clause-breaks c = handed_on _ _ _ c.from_residual-in_err-refuse_stray.ensures.1 (breaks_stray c.requires _ c.in_err-refuse_stray.ensures.some)

pub returns-clause-meets : goal.returns-clause-meets
returns-clause-meets c =
    let all = chose c.args.job.now c.requires c.as_slice-chosen.result.now _ c.job.view_is _ c.as_slice-chosen.ensures.value (c.in-Ok.ensures.regions c.requires.regions c.requires.accepted.named.layout) in
    ok_then c.refuse_landless.result
    (λ lands. meets_rules all c.in_ok-refuse_length.ensures.same c.in_ok-refuse_empty.ensures.none c.in_ok-refuse_partial.ensures.given c.in_ok-refuse_stray.ensures.none lands)
    c.refuse_landless.ensures.some

pub returns-clause-breaks : goal.returns-clause-breaks
returns-clause-breaks c =
    let all = chose c.args.job.now c.requires c.as_slice-chosen.result.now _ c.job.view_is _ c.as_slice-chosen.ensures.value (c.in-Ok.ensures.regions c.requires.regions c.requires.accepted.named.layout) in
    err_then c.refuse_landless.result (λ why found. breaks_landless why all found) c.refuse_landless.ensures.none
