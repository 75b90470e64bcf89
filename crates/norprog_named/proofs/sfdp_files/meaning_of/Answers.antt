-- The meaning is that of the tables that were read, or there is none.
use Rattle.std.proofs.Common.{ap, ◌∙◌, subst}
use Rattle.nor_base.proofs.FaultLaws.{answered}
use Rattle.nor_job.specs.Task.{Task}
use Rattle.norprog_common.specs.Setup.{IsKnown, RefusesChipOf, setup_task}
use Rattle.norprog_named.specs.Sfdp.{EndsSfdp, Means, NoChip, NoInput}
use Rattle.norprog_named.proofs.sfdp_files.meaning_of.Goals as goal

pub returns-in_err-tables : goal.returns-in_err-tables
returns-in_err-tables g c =
    let did = c.in_err-tables.ensures in
    (did.0, did.1, answered _ (EndsSfdp c.args.setup did.0) _ (NoInput did.0 _ did.2) c.from_residual.ensures.1)

pub returns-in_err-meaning : goal.returns-in_err-meaning
returns-in_err-meaning g c =
    let did = c.in_ok-tables.ensures in
    let is = c.setup_inputs-inputs.ensures ∙ ap (setup_task c.args.setup) c.as_slice.ensures.value in (
      did.0,
      did.1,
      answered _ (EndsSfdp c.args.setup did.0) _
          (NoChip c.in_ok-tables.tables.items did.0 _ did.2 (subst (λ (t : Task). RefusesChipOf t c.in_err-meaning.field-0.0) is c.in_err-meaning.ensures.refused))
          c.from_residual-in_err-meaning.ensures.1,
    )

pub returns : goal.returns
returns g c =
    let did = c.in_ok-tables.ensures in
    let is = c.setup_inputs-inputs.ensures ∙ ap (setup_task c.args.setup) c.as_slice.ensures.value in (
      did.0,
      did.1,
      Means c.in_ok-tables.tables.items did.0 c.in_ok-meaning.meaning did.2
          (subst (λ (t : Task). IsKnown t c.in_ok-meaning.meaning) is c.in_ok-meaning.ensures.known),
    )
