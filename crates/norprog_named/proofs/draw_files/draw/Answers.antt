-- Each step that ends it.
use Rattle.std.proofs.Common.{ℕ, List, [], ◌∷◌, subst, sym, take}
use Rattle.std.specs.Io.KnownBytes.{Appends}
use Rattle.nor_base.specs.Script.{IsScript}
use Rattle.nor_base.specs.declared.step.Step.{Step}
use Rattle.nor_base.proofs.FaultLaws.{answered}
use Rattle.nor_waves.specs.Waves.{waves}
use Rattle.norprog_script.specs.Drawn.{RefusesSteps, part}
use Rattle.norprog_files.specs.Files.{Denied, Event, Given, Loses, Loses_some, Made, Sends_all, closing}
use Rattle.norprog_files.proofs.FilesLemmas.{adds_both, lost}
use Rattle.norprog_files.specs.declared.replaced.OutKind.TheVariants.{Waveform}
use Rattle.norprog_named.specs.Draw.{Drawn, EndsDraw, NoOutput, NoScript, Refused, Unsent}
use Rattle.norprog_named.proofs.draw_files.draw.Goals as goal

pub returns-in_err-script : goal.returns-in_err-script
returns-in_err-script g c =
    let log = Denied c.args.request.script.now ∷ [] in
    (log, c.in_err-script.ensures.did, answered _ (EndsDraw c.args.request log) _ (NoScript _ c.in_err-script.ensures.refused) c.from_residual.ensures.1)

pub returns-in_err-steps : goal.returns-in_err-steps
returns-in_err-steps g c =
    let log = Given c.args.request.script.now c.in_ok-script.script.items ∷ [] in
    (log, c.in_ok-script.ensures.did, answered _ (EndsDraw c.args.request log) _ (Refused c.in_ok-script.script.items _ (subst (λ (text : List ℕ). RefusesSteps text c.args.request.from c.in_err-steps.field-0.0) c.as_slice.ensures.value c.in_err-steps.ensures.refused)) c.from_residual-in_err-steps.ensures.1)

pub returns-in_err-out : goal.returns-in_err-out
returns-in_err-out g c =
    let r = c.args.request in
    let log = Given r.script.now c.in_ok-script.script.items ∷ Denied r.out.path.now ∷ [] in (
      log,
      adds_both c.in_ok-script.ensures.did c.in_err-out.ensures.did,
      answered _ (EndsDraw r log) _ (NoOutput _ _ c.in_err-out.ensures.refused) c.from_residual-in_err-out.ensures.1,
    )

pub returns-in-Ok-closed : goal.returns-in-Ok-closed
returns-in-Ok-closed g c = (
  _,
  adds_both c.in_ok-script.ensures.did (adds_both c.in_ok-out.ensures.did c.in-Ok-closed.ensures.did),
  Drawn c.in_ok-script.script.items c.in_ok-steps.steps.items _
      (subst (λ (text : List ℕ). IsScript text c.in_ok-steps.steps.items) c.as_slice.ensures.value c.in_ok-steps.ensures.steps) c.in_ok-steps.ensures.there
      (Sends_all _ _
      (subst (λ (steps : List Step). Appends (g.F.Output.ByteOut.held c.in_ok-out.out) (g.F.Output.ByteOut.held c.draw_steps-drawn.new.out) (waves (part c.args.request.from c.args.request.count steps)))
      c.as_slice-2.ensures.value c.in-Ok.ensures.bytes)),
)

pub returns-in-Ok : goal.returns-in-Ok
returns-in-Ok g c = (
  _,
  adds_both c.in_ok-script.ensures.did (adds_both c.in_ok-out.ensures.did c.in-Err-closed.ensures.did),
  Unsent c.in_ok-script.script.items _ _ (Loses_some _ _ c.in-Ok.ensures.bytes),
)

pub returns : goal.returns
returns g c =
    let r = c.args.request in
    let begun = g.F.Output.ByteOut.held c.in_ok-out.out in
    let held = g.F.Output.ByteOut.held c.draw_steps-drawn.new.out in
    let last = closing c.close-closed.result r.out.path.now held in
    let cut = c.in-Err.ensures.bytes in
    let text = take cut.0 (waves (part r.from r.count c.as_slice-2.result.now)) in (
      Given r.script.now c.in_ok-script.script.items ∷ Made r.out Waveform begun ∷ last ∷ [],
      adds_both c.in_ok-script.ensures.did (adds_both c.in_ok-out.ensures.did c.close-closed.ensures.did),
      Unsent c.in_ok-script.script.items text _
          (subst (λ (e : Event). Loses r.out Waveform text (Made r.out Waveform begun ∷ e ∷ []))
          (sym (lost c.close-closed.result r.out.path.now held (g.F.Output.ByteOut.count c.in_ok-out.out) (g.F.Output.ByteOut.count c.draw_steps-drawn.new.out) c.close-closed.ensures.unfailed c.in-Err.ensures.count))
          (Loses_some begun held cut.2)),
    )
