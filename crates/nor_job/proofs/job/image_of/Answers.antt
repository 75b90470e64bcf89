-- The text's fault, or memory.
use Rattle.std.proofs.Common.{◌≡◌, ap, rules, subst, None}
use Rattle.nor_hex.specs.Faults.{IsFault}
use Rattle.nor_job.specs.Causes.{OutOfMemory}
use Rattle.nor_job.specs.Task.{Task}
use Rattle.nor_base.proofs.FaultLaws.{handed_on}
use Rattle.nor_job.proofs.FaultLemmas.{of_text}
use Rattle.nor_job.proofs.job.image_of.Goals as goal

pub returns-in_err-copied-in-Some-clause-refused : goal.returns-in_err-copied-in-Some-clause-refused
returns-in_err-copied-in-Some-clause-refused c = handed_on _ _ _ c.from_residual.ensures.1 OutOfMemory

pub returns-in_err-read-in-None-clause-refused : goal.returns-in_err-read-in-None-clause-refused
returns-in_err-read-in-None-clause-refused c =
    let none : c.args.inputs.now.image ≡ None = search rules in
    handed_on _ _ _ c.from_residual-in_err-read-in-None.ensures.1
    (of_text c.args.inputs.now.image c.args.inputs.now.hex c.in_err-read-in-None.field-0.0 none
    (λ real. subst (λ text. IsFault text c.in_err-read-in-None.field-0.0) (ap (λ (t : Task). t.hex) c.inputs.view_is) (c.in_err-read-in-None.ensures.fault real)))
