-- A fault that shows before the chip is read.
use Rattle.std.proofs.Common.{Bool, IfErr, subst, sym}
use Rattle.nor_job.specs.Task.{Task}
use Rattle.norprog_flash.specs.Early.{BreaksEarly, Unnamed, Unsound, is_known}
use Rattle.norprog_flash.specs.Looked as work
use Rattle.nor_base.proofs.FaultLaws.{handed_on}
use Rattle.norprog_flash.specs.Early.{NoMemory, RefusesEarly}
use Rattle.norprog_flash.proofs.StopsLemmas.{breaking, early}
use Rattle.norprog_flash.proofs.early.look_at.Goals as goal

pub returns-then-is_unnamed-clause-refused : goal.returns-then-is_unnamed-clause-refused
returns-then-is_unnamed-clause-refused c = Unnamed (sym c.if-is_unnamed.ensures)

pub returns-in_err-image-clause-refused : goal.returns-in_err-image-clause-refused
returns-in_err-image-clause-refused c =
    handed_on (RefusesEarly c.args.job.now) _ _ c.from_residual.ensures.1 (subst (RefusesEarly c.args.job.now) (sym c.in_err-image.ensures.memory) NoMemory)

pub returns-in-Ok-clause-refused : goal.returns-in-Ok-clause-refused
returns-in-Ok-clause-refused c =
    breaking c.args.job.now c.refuse_early.result
    (subst (λ (t : Task). IfErr c.refuse_early.result (BreaksEarly c.args.job.now.rules (is_known c.args.job.now.ask.known) t))
    (early c.args.job.now _ _ _ c.inputs_for-inputs.ensures c.known_tables-known.ensures.tables c.in_ok-image.ensures.image)
    (subst (λ (known : Bool). IfErr c.refuse_early.result (BreaksEarly c.args.job.now.rules known c.inputs_for-inputs.result)) c.known_tables-known.ensures.known
    c.refuse_early.ensures.breaks))

pub returns-clause-refused : goal.returns-clause-refused
returns-clause-refused c =
    Unsound c.in-Err.why (sym c.if-is_unnamed.ensures)
    (subst (λ (t : Task). work.RefusesEarly (is_known c.args.job.now.ask.known) t c.in-Err.why)
    (early c.args.job.now _ _ _ c.inputs_for-inputs.ensures c.known_tables-known.ensures.tables c.in_ok-image.ensures.image)
    (subst (λ (known : Bool). work.RefusesEarly known c.inputs_for-inputs.result c.in-Err.why) c.known_tables-known.ensures.known c.in-Err.ensures.refused))
