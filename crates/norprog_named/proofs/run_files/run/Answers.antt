-- Each step that ends it.
use Rattle.std.proofs.Common.{[], ◌∷◌, ◌++◌, ◌∙◌, ap, arith, is_ok, None, refl}
use Rattle.nor_base.proofs.DeviceLaws.{risen_some}
use Rattle.nor_base.proofs.FaultLaws.{answered}
use Rattle.norprog_common.specs.Setup.{setup_task}
use Rattle.norprog_files.specs.Files.{Denied, Made, closing}
use Rattle.norprog_files.proofs.FilesLemmas.{adds_both, adds_none}
use Rattle.norprog_files.specs.declared.replaced.OutKind.TheVariants.{Content}
use Rattle.norprog_named.specs.Run.{EndsRun, NoInput, NoOutput, Played, Refused, Unsent}
use Rattle.nor_job.specs.Written.{passed}
use Rattle.norprog_run.specs.Play.{play_of}
use Rattle.norprog_named.proofs.RunLemmas.{blames_all, blames_wider, closes, ends_nowhere, kept, play_asked, sent, unsent}
use Rattle.norprog_named.proofs.run_files.run.Goals as goal

pub returns-in_err-tables : goal.returns-in_err-tables
returns-in_err-tables g c =
    let did = c.in_err-tables.ensures.did in
    (did.0, did.1, answered _ (EndsRun (g.F.Files.unread c.args.files.now) c.args.request did.0) _ (NoInput did.0 _ did.2) c.from_residual.ensures.1)

pub returns-in_default : goal.returns-in_default
returns-in_default g c =
    let did = c.in_ok-tables.ensures.did in
    let is = c.setup_inputs-inputs.ensures ∙ ap (setup_task c.args.request.setup) c.as_slice.ensures.value in
    let p = play_of c.setup_inputs-inputs.result c.args.request.bench c.in_ok-tables.len (passed (g.F.Input.ByteIn.ahead c.in_ok-tables.content) (g.F.Input.ByteIn.ahead c.play_stream.new.content) _ _) in (
      _,
      adds_both did.1 (adds_none _),
      ends_nowhere (g.F.Files.unread c.args.files.now) c.args.request p _ _ did.0 c.play_stream.result (play_asked c.args.request p is refl did.2) c.in_default.is
          c.play_stream.ensures.played c.play_stream.ensures.unplayed
          (blames_all c.play_stream.result
          (λ failed. g.met.F.Files.failing c.args.files.now c.play_stream.new.script (risen_some _ _ failed))
          (λ failed. g.met.F.Files.failing c.args.files.now c.play_stream.new.content (risen_some _ _ failed))
          (λ failed. absurd (let some = risen_some 0 0 failed in omega (arith, some)))
          c.play_stream.ensures.blamed),
    )

pub returns-in_err-out : goal.returns-in_err-out
returns-in_err-out g c =
    let did = c.in_ok-tables.ensures.did in
    let o = c.in-Some.file in
    let is = c.setup_inputs-inputs.ensures ∙ ap (setup_task c.args.request.setup) c.as_slice.ensures.value in
    let content = g.F.Input.ByteIn.ahead c.in_ok-tables.content in
    let p = play_of c.setup_inputs-inputs.result c.args.request.bench c.in_ok-tables.len (passed content content None None) in (
      _,
      adds_both did.1 c.in_err-out.ensures.did,
      answered _ (EndsRun (g.F.Files.unread c.args.files.now) c.args.request (did.0 ++ (Denied o.path.now ∷ []))) _
          (NoOutput p _ did.0 o _ (play_asked c.args.request p is refl did.2) c.in-Some.is c.in_err-out.ensures.refused)
          c.from_residual-in_err-out.ensures.1,
    )

pub returns-in_err-verdict : goal.returns-in_err-verdict
returns-in_err-verdict g c =
    let did = c.in_ok-tables.ensures.did in
    let o = c.in-Some.file in
    let is = c.setup_inputs-inputs.ensures ∙ ap (setup_task c.args.request.setup) c.as_slice.ensures.value in
    let begun = g.F.Output.ByteOut.held c.in_ok-out.out in
    let held = g.F.Output.ByteOut.held c.play_stream-played.new.out in
    let p = play_of c.setup_inputs-inputs.result c.args.request.bench c.in_ok-tables.len (passed (g.F.Input.ByteIn.ahead c.in_ok-tables.content) (g.F.Input.ByteIn.ahead c.play_stream-played.new.content) begun held) in (
      _,
      adds_both did.1 (adds_both c.in_ok-out.ensures.did c.close-closed.ensures.did),
      answered _ (EndsRun (g.F.Files.unread c.args.files.now) c.args.request (did.0 ++ (Made o (Content p.len) begun ∷ closing c.close-closed.result o.path.now held ∷ []))) _
          (Refused p _ _ did.0 _ (is_ok c.close-closed.result) _ (play_asked c.args.request p is refl did.2) c.in_err-verdict.ensures.unplayed
          (closes p c.close-closed.result o _ c.in-Some.is)
          (blames_wider c.in_err-verdict.field-0.0
          (λ failed. g.met.F.Files.failing c.args.files.now c.play_stream-played.new.script (risen_some _ _ failed))
          (λ failed. g.met.F.Files.failing c.args.files.now c.play_stream-played.new.content (risen_some _ _ failed))
          (λ failed. unsent c.close-closed.result _ _ c.close-closed.ensures.unfailed failed)
          c.in_err-verdict.ensures.blamed))
          c.from_residual-in_err-verdict.ensures.1,
    )

pub returns-in-Ok : goal.returns-in-Ok
returns-in-Ok g c =
    let did = c.in_ok-tables.ensures.did in
    let is = c.setup_inputs-inputs.ensures ∙ ap (setup_task c.args.request.setup) c.as_slice.ensures.value in
    let p = play_of c.setup_inputs-inputs.result c.args.request.bench c.in_ok-tables.len (passed (g.F.Input.ByteIn.ahead c.in_ok-tables.content) (g.F.Input.ByteIn.ahead c.play_stream-played.new.content) (g.F.Output.ByteOut.held c.in_ok-out.out) (g.F.Output.ByteOut.held c.play_stream-played.new.out)) in (
      _,
      adds_both did.1 (adds_both c.in_ok-out.ensures.did c.in-Ok.ensures.did),
      Played p _ _ did.0 _ _ (play_asked c.args.request p is refl did.2) c.in_ok-verdict.ensures.played
          (sent p c.in-Some.file _ c.in-Some.is),
    )

pub returns : goal.returns
returns g c =
    let did = c.in_ok-tables.ensures.did in
    let is = c.setup_inputs-inputs.ensures ∙ ap (setup_task c.args.request.setup) c.as_slice.ensures.value in
    let p = play_of c.setup_inputs-inputs.result c.args.request.bench c.in_ok-tables.len (passed (g.F.Input.ByteIn.ahead c.in_ok-tables.content) (g.F.Input.ByteIn.ahead c.play_stream-played.new.content) (g.F.Output.ByteOut.held c.in_ok-out.out) (g.F.Output.ByteOut.held c.play_stream-played.new.out)) in (
      _,
      adds_both did.1 (adds_both c.in_ok-out.ensures.did c.in-Err.ensures.did),
      Unsent p _ _ did.0 _ _ (play_asked c.args.request p is refl did.2) c.in_ok-verdict.ensures.played
          (kept p c.in-Some.file _ c.in-Some.is),
    )
