-- What was printed of the script that was opened, or why there is nothing.
use Rattle.std.proofs.Common.{[], ap, ◌∙◌, refl}
use Rattle.nor_base.proofs.DeviceLaws.{risen_some}
use Rattle.nor_base.specs.Chip.{begins4}
use Rattle.nor_base.proofs.FaultLaws.{answered}
use Rattle.norprog_common.specs.Setup.{setup_task}
use Rattle.norprog_common.specs.declared.faults.FileName.TheVariants as file
use Rattle.norprog_files.specs.Files.{Here}
use Rattle.norprog_files.proofs.FilesLemmas.{adds_both, stops_after, stops_before}
use Rattle.norprog_named.specs.List.{EndsList, NoChip, NoInput}
use Rattle.norprog_common.specs.Told.{between}
use Rattle.norprog_named.proofs.JobLemmas.{tables_used}
use Rattle.norprog_named.proofs.ListLemmas.{listed, opens, stopped}
use Rattle.norprog_named.proofs.list_files.list.Goals as goal

pub returns-in_err-tables : goal.returns-in_err-tables
returns-in_err-tables g c =
    let did = c.in_err-tables.ensures in (
      did.0,
      did.1,
      answered _ (EndsList _ c.args.request (between _ _ (g.O.ByteOut.count c.args.out.now) (g.O.ByteOut.count c.args.out.now)) did.0) _
          (NoInput did.0 _ (stops_before _ did.2) refl) c.from_residual.ensures.1,
    )

pub returns-in_err-script : goal.returns-in_err-script
returns-in_err-script g c =
    let tables = c.in_ok-tables.ensures in
    let script = c.args.request.script.now in (
      _,
      adds_both tables.1 c.in_err-script.ensures.did,
      answered _ (EndsList _ c.args.request (between _ _ (g.O.ByteOut.count c.args.out.now) (g.O.ByteOut.count c.args.out.now)) _) _
          (NoInput _ _ (stops_after (tables_used tables.2) (Here file.Script script [] _ c.in_err-script.ensures.refused)) refl) c.from_residual-in_err-script.ensures.1,
    )

pub returns-in_err-meaning : goal.returns-in_err-meaning
returns-in_err-meaning g c =
    let tables = c.in_ok-tables.ensures in
    let is = c.setup_inputs-inputs.ensures ∙ ap (setup_task c.args.request.setup) c.as_slice.ensures.value in (
      _,
      adds_both tables.1 c.in_ok-script.ensures.did,
      answered _ (EndsList _ c.args.request (between _ _ (g.O.ByteOut.count c.args.out.now) (g.O.ByteOut.count c.args.out.now)) _) _
          (NoChip _ _ _ _ (opens c.args.request _ c.in_ok-script._len is tables.2) c.in_err-meaning.ensures.refused refl) c.from_residual-in_err-meaning.ensures.1,
    )

pub returns-in-Ok : goal.returns-in-Ok
returns-in-Ok g c =
    let tables = c.in_ok-tables.ensures in
    let is = c.setup_inputs-inputs.ensures ∙ ap (setup_task c.args.request.setup) c.as_slice.ensures.value in (
      _,
      adds_both tables.1 c.in_ok-script.ensures.did,
      listed _ c.args.request _ _ _ (opens c.args.request _ c.in_ok-script._len is tables.2) c.in_ok-meaning.ensures.known
          (c.begins4.ensures ∙ ap (begins4 c.in_ok-meaning.meaning) c.in_ok-meaning.ensures.start) c.in-Ok.ensures.lists,
    )

pub returns : goal.returns
returns g c =
    let tables = c.in_ok-tables.ensures in
    let is = c.setup_inputs-inputs.ensures ∙ ap (setup_task c.args.request.setup) c.as_slice.ensures.value in (
      _,
      adds_both tables.1 c.in_ok-script.ensures.did,
      rw c.refusal_of.ensures (stopped _ c.args.request _ _ _ (opens c.args.request _ c.in_ok-script._len is tables.2) c.in_ok-meaning.ensures.known
          (c.begins4.ensures ∙ ap (begins4 c.in_ok-meaning.meaning) c.in_ok-meaning.ensures.start) _ _ _ _ c.in-Err.stop c.in-Err.ensures.lists c.in-Err.ensures.source c.in-Err.ensures.count
          (λ more. g.met.F.Files.failing c.args.files.now c.list_steps.new.script (risen_some _ _ more)) (λ more. more)),
    )
