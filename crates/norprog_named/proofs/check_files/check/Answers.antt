-- Each step that ends it.
use Rattle.std.proofs.Common.{[], ◌∷◌, ◌++◌}
use Rattle.nor_base.proofs.DeviceLaws.{risen_some}
use Rattle.norprog_check.specs.Checked.{checking}
use Rattle.nor_base.proofs.FaultLaws.{answered}
use Rattle.norprog_check.specs.Stream.{work}
use Rattle.norprog_files.specs.Files.{Denied, Opened}
use Rattle.norprog_files.proofs.FilesLemmas.{adds_both}
use Rattle.norprog_named.specs.Check.{Breaking, Checked, EndsCheck, NoInput, NoScript, Opens_all, Refused}
use Rattle.norprog_named.proofs.BuildLemmas.{job_by}
use Rattle.norprog_named.proofs.CheckLemmas.{wider}
use Rattle.norprog_named.proofs.check_files.check.Goals as goal

pub returns-in_err-texts : goal.returns-in_err-texts
returns-in_err-texts g c =
    let did = c.in_err-texts.ensures.did in (
      did.0,
      did.1,
      answered _ (EndsCheck (g.F.Files.unread c.args.files.now) c.args.request.now c.args.path.now did.0) _ (NoInput did.0 _ did.2)
          c.from_residual.ensures.1,
    )

pub returns-in_err-script : goal.returns-in_err-script
returns-in_err-script g c =
    let path = c.args.path.now in
    let job = c.in_ok-texts.ensures.did in (
      _,
      adds_both job.1 c.in_err-script.ensures.did,
      answered _ (EndsCheck (g.F.Files.unread c.args.files.now) c.args.request.now path (job.0 ++ (Denied path ∷ []))) _
          (NoScript _ _ _ job.0 _ job.2 c.in_err-script.ensures.refused) c.from_residual-in_err-script.ensures.1,
    )

pub returns-in_err-refuse_image : goal.returns-in_err-refuse_image
returns-in_err-refuse_image g c =
    let path = c.args.path.now in
    let job = c.in_ok-texts.ensures.did in
    let script = g.F.Input.ByteIn.ahead c.in_ok-script.script in
    let content = g.F.Input.ByteIn.ahead c.in_ok-texts.content in
    let w = work (checking c.inputs_of-inputs.result c.in_ok-texts.len content content) script script in (
      _,
      adds_both job.1 c.in_ok-script.ensures.did,
      answered _ (EndsCheck (g.F.Files.unread c.args.files.now) c.args.request.now path (job.0 ++ (Opened path script c.in_ok-script._len ∷ []))) _
          (Breaking w _ _ (Opens_all job.0 c.in_ok-script._len (job_by _ _ c.inputs_of-inputs.ensures job.2)) c.in_err-refuse_image.ensures.breaks)
          c.from_residual-in_err-refuse_image.ensures.1,
    )

pub returns-in-Ok : goal.returns-in-Ok
returns-in-Ok g c =
    let job = c.in_ok-texts.ensures.did in
    let w = work (checking c.inputs_of-inputs.result c.in_ok-texts.len (g.F.Input.ByteIn.ahead c.in_ok-texts.content) (g.F.Input.ByteIn.ahead c.check_stream.new.content)) (g.F.Input.ByteIn.ahead c.in_ok-script.script) (g.F.Input.ByteIn.ahead c.check_stream.new.script) in (
      _,
      adds_both job.1 c.in_ok-script.ensures.did,
      Checked w _ c.in-Ok.found (Opens_all job.0 c.in_ok-script._len (job_by _ _ c.inputs_of-inputs.ensures job.2)) c.in_ok-refuse_image.ensures.meets c.in-Ok.ensures.found,
    )

pub returns : goal.returns
returns g c =
    let job = c.in_ok-texts.ensures.did in
    let w = work (checking c.inputs_of-inputs.result c.in_ok-texts.len (g.F.Input.ByteIn.ahead c.in_ok-texts.content) (g.F.Input.ByteIn.ahead c.check_stream.new.content)) (g.F.Input.ByteIn.ahead c.in_ok-script.script) (g.F.Input.ByteIn.ahead c.check_stream.new.script) in (
      _,
      adds_both job.1 c.in_ok-script.ensures.did,
      rw c.refusal_of.ensures (Refused w _ c.in-Err.stop (Opens_all job.0 c.in_ok-script._len (job_by _ _ c.inputs_of-inputs.ensures job.2)) c.in_ok-refuse_image.ensures.meets
          (wider (λ more. g.met.F.Files.failing c.args.files.now c.check_stream.new.script (risen_some _ _ more))
          (λ more. g.met.F.Files.failing c.args.files.now c.check_stream.new.content (risen_some _ _ more)) c.in-Err.ensures.unchecked)),
    )
