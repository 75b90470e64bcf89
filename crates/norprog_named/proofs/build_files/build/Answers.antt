-- Each step that ends it.
use Rattle.std.proofs.Common.{[], ◌∷◌, ◌++◌}
use Rattle.nor_job.specs.Written.{passed}
use Rattle.nor_base.proofs.DeviceLaws.{risen_some}
use Rattle.nor_base.proofs.FaultLaws.{answered}
use Rattle.norprog_files.specs.Files.{Denied, Made, closing}
use Rattle.norprog_files.proofs.FilesLemmas.{adds_both, closed, lost}
use Rattle.norprog_files.specs.declared.replaced.OutKind.TheVariants.{Script}
use Rattle.norprog_named.specs.Build.{Built, EndsBuild, NoInput, NoOutput, NotBuilt, Unsent, work}
use Rattle.norprog_named.proofs.BuildLemmas.{job_by, wider}
use Rattle.norprog_named.proofs.build_files.build.Goals as goal

pub returns-in_err-texts : goal.returns-in_err-texts
returns-in_err-texts g c =
    let did = c.in_err-texts.ensures.did in
    (did.0, did.1, answered _ (EndsBuild (g.F.Files.unread c.args.files.now) c.args.request.now c.args.out did.0) _ (NoInput did.0 _ did.2) c.from_residual.ensures.1)

pub returns-in_err-script : goal.returns-in_err-script
returns-in_err-script g c =
    let out = c.args.out in
    let job = c.in_ok-texts.ensures.did in (
      _,
      adds_both job.1 c.in_err-script.ensures.did,
      answered _ (EndsBuild (g.F.Files.unread c.args.files.now) c.args.request.now out (job.0 ++ (Denied out.path.now ∷ []))) _
          (NoOutput _ _ c.in_ok-texts.len job.0 _ job.2 c.in_err-script.ensures.refused) c.from_residual-in_err-script.ensures.1,
    )

pub returns-in_err-report : goal.returns-in_err-report
returns-in_err-report g c =
    let out = c.args.out in
    let job = c.in_ok-texts.ensures.did in
    let begun = g.F.Output.ByteOut.held c.in_ok-script.script in
    let held = g.F.Output.ByteOut.held c.built-built.new.out in
    let last = closing c.close-closed.result out.path.now held in
    let w = work c.inputs_of-inputs.result c.in_ok-texts.len (passed (g.F.Input.ByteIn.ahead c.in_ok-texts.content) (g.F.Input.ByteIn.ahead c.built-built.new.content) begun held) in (
      _,
      adds_both job.1 (adds_both c.in_ok-script.ensures.did c.close-closed.ensures.did),
      answered _ (EndsBuild (g.F.Files.unread c.args.files.now) c.args.request.now out (job.0 ++ (Made out Script begun ∷ last ∷ []))) _
          (NotBuilt w job.0 last _ (job_by _ _ c.inputs_of-inputs.ensures job.2) (closed c.close-closed.result out.path.now held)
          (wider
          (λ failed. g.met.F.Files.failing c.args.files.now c.built-built.new.content (risen_some _ _ failed))
          (λ failed. lost c.close-closed.result out.path.now held _ _ c.close-closed.ensures.unfailed failed)
          c.in_err-report.ensures.unbuilt))
          c.from_residual-in_err-report.ensures.1,
    )

pub returns-in-Ok : goal.returns-in-Ok
returns-in-Ok g c =
    let job = c.in_ok-texts.ensures.did in (
      _,
      adds_both job.1 (adds_both c.in_ok-script.ensures.did c.in-Ok.ensures.did),
      Built (work _ c.in_ok-texts.len (passed _ _ _ _)) job.0 _ (job_by _ _ c.inputs_of-inputs.ensures job.2) c.in_ok-report.ensures.meets c.in_ok-report.ensures.built,
    )

pub returns : goal.returns
returns g c =
    let job = c.in_ok-texts.ensures.did in (
      _,
      adds_both job.1 (adds_both c.in_ok-script.ensures.did c.in-Err.ensures.did),
      Unsent (work _ c.in_ok-texts.len (passed _ _ _ _)) job.0 _ (job_by _ _ c.inputs_of-inputs.ensures job.2) c.in_ok-report.ensures.built,
    )
