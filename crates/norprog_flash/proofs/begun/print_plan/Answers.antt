-- The plan was printed, or not all of it.
use Rattle.std.proofs.Common.{◌∙◌, ap, option_map, unwrap_or}
use Rattle.nor_base.proofs.DeviceLaws.{Appends-append, Cuts-more, Cuts-then}
use Rattle.nor_base.proofs.FaultLaws.{handed_on}
use Rattle.norprog_flash.specs.Stops.{CantPlan, OnAnother, Unprinted}
use Rattle.norprog_flash.proofs.begun.print_plan.Goals as goal

pub returns-in_err-laid-clause-refused : goal.returns-in_err-laid-clause-refused
returns-in_err-laid-clause-refused g c =
    handed_on (CantPlan c.args.job.now c.args.reading.now _) _ _ c.from_residual.ensures.1 (c.in_err-laid.ensures.refused (g.O.ByteOut.held c.args.out.now))

pub returns-in_err-work-clause-refused : goal.returns-in_err-work-clause-refused
returns-in_err-work-clause-refused g c =
    handed_on (CantPlan c.args.job.now c.args.reading.now _) _ _ c.from_residual-in_err-work.ensures.1 (c.in_err-work.ensures.refused (g.O.ByteOut.held c.args.out.now))

pub returns-in-Err-clause-refused : goal.returns-in-Err-clause-refused
returns-in-Err-clause-refused g c = Unprinted _ c.in_ok-work.ensures.work.1 (Cuts-more _ _ _ _ c.in-Err.ensures.bytes)

pub returns-then-not-is_of_dump-clause-refused : goal.returns-then-not-is_of_dump-clause-refused
returns-then-not-is_of_dump-clause-refused g c =
    let held = c.as_slice-held.ensures.value in
    let first = c.first_held-old.ensures ∙ ap (unwrap_or (option_map (λ all. all.items) c.in_ok-laid.laid)) held ∙ c.in_ok-laid.ensures.laid in
    OnAnother _ c.in_ok-work.ensures.work.1
    (rw first at (rw held at (rw c.as_slice.ensures.value at (c.is_of_dump.ensures.other c.if-not-is_of_dump.true)))) c.in-Ok.ensures.bytes

pub returns-in-Ok-write_last-clause-plan : goal.returns-in-Ok-write_last-clause-plan
returns-in-Ok-write_last-clause-plan g c =
    let held = c.as_slice-held.ensures.value in
    let first = c.first_held-old.ensures ∙ ap (unwrap_or (option_map (λ all. all.items) c.in_ok-laid.laid)) held ∙ c.in_ok-laid.ensures.laid in (
      c.in_ok-work.ensures.work.0,
      record {
        work = c.in_ok-work.ensures.work.1;
        fits = c.in_ok-laid.ensures.fits;
        kept = rw first at (rw held at (rw c.as_slice.ensures.value at (c.is_of_dump.ensures.kept c.if-not-is_of_dump.false)));
        printed = Appends-append _ _ _ _ _ c.in-Ok.ensures.bytes c.in-Ok-write_last.ensures.bytes;
      },
    )

pub returns-clause-refused : goal.returns-clause-refused
returns-clause-refused g c =
    Unprinted _ c.in_ok-work.ensures.work.1 (Cuts-then _ _ _ _ _ c.in-Ok.ensures.bytes c.in-Err-write_last.ensures.bytes)
