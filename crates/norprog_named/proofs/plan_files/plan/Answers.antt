-- Each step that ends it.
use Rattle.std.proofs.Common.{◌++◌, List, ℕ, refl, subst, ◌∙◌, ap}
use Rattle.std.specs.Io.KnownBytes.{Appends}
use Rattle.nor_base.specs.Device.{Cuts, one_more}
use Rattle.nor_base.proofs.DeviceLaws.{Appends-append, risen_some}
use Rattle.nor_base.proofs.FaultLaws.{answered}
use Rattle.norprog_files.proofs.FilesLemmas.{adds_both}
use Rattle.norprog_plan.specs.Outline.{outline}
use Rattle.norprog_common.specs.Told.{between}
use Rattle.norprog_named.specs.Plan.{EndsPlan, NoInput, NoMap, NotTold, SendsMap, Told, Undrawn, Unprinted}
use Rattle.norprog_named.proofs.BuildLemmas.{job_by, wider}
use Rattle.norprog_named.proofs.PlanLemmas.{tells_job}
use Rattle.norprog_named.proofs.plan_files.plan.Goals as goal

pub returns-in_err-texts : goal.returns-in_err-texts
returns-in_err-texts g c =
    let did = c.in_err-texts.ensures.did in
    let count = g.O.ByteOut.count c.args.out.now in (
      did.0,
      did.1,
      answered _ (EndsPlan (g.F.Files.unread c.args.files.now) c.args.request.now (between _ _ count count) did.0) _ (NoInput did.0 _ did.2 refl)
          c.from_residual.ensures.1,
    )

pub returns-in_err-map : goal.returns-in_err-map
returns-in_err-map g c =
    let job = c.in_ok-texts.ensures.did in
    let did = c.in_err-map.ensures.did in
    let count = g.O.ByteOut.count c.args.out.now in (
      _,
      adds_both job.1 did.1,
      answered _ (EndsPlan (g.F.Files.unread c.args.files.now) c.args.request.now (between _ _ count count) (job.0 ++ did.0)) _
          (NoMap _ _ c.in_ok-texts.len job.0 did.0 _ job.2 did.2 refl) c.from_residual-in_err-map.ensures.1,
    )

pub returns-in-Err : goal.returns-in-Err
returns-in-Err g c =
    let job = c.in_ok-texts.ensures.did in
    let made = c.in_ok-map.ensures.did in
    let left = c.leave_map.ensures c.args.request.now.map made.0 made.2 in (
      _,
      adds_both job.1 (adds_both made.1 left.1),
      NotTold _ _ _ c.in_ok-texts.len job.0 (made.0 ++ left.0) _ (job_by _ _ c.inputs_of-inputs.ensures job.2) left.2
          (wider (λ failed. g.met.F.Files.failing c.args.files.now c.print_lines.new.content (risen_some _ _ failed)) (λ failed. failed) c.in-Err.ensures.untold),
    )

pub returns-in-Err-send_map : goal.returns-in-Err-send_map
returns-in-Err-send_map g c =
    let job = c.in_ok-texts.ensures.did in
    let made = c.in_ok-map.ensures.did in
    let sent = c.in-Err-send_map.ensures c.args.request.now.map made.0 made.2 in
    let told = c.in-Ok.ensures.told in (
      _,
      adds_both job.1 (adds_both made.1 sent.1),
      Undrawn (outline told.0 c.in-Ok.told) job.0 (made.0 ++ sent.0)
          (tells_job c.in_ok-texts.len (job_by _ _ c.inputs_of-inputs.ensures job.2) c.in-Ok.ensures.meets told.1) sent.2 told.2,
    )

pub returns-in-Ok-put_all : goal.returns-in-Ok-put_all
returns-in-Ok-put_all g c =
    let job = c.in_ok-texts.ensures.did in
    let made = c.in_ok-map.ensures.did in
    let map = c.args.request.now.map in
    let sent = c.in-Ok-send_map.ensures map made.0 made.2 in
    let told = c.in-Ok.ensures.told in
    let held = g.O.ByteOut.held in
    let rest = subst (λ (bytes : List ℕ). Appends (held c.print_lines.new.out) (held c.put_all.new.writer) bytes) c.deref-2.ensures.value c.in-Ok-put_all.ensures.bytes in (
      _,
      adds_both job.1 (adds_both made.1 sent.1),
      Told (outline told.0 c.in-Ok.told) job.0 (made.0 ++ sent.0)
          (tells_job c.in_ok-texts.len (job_by _ _ c.inputs_of-inputs.ensures job.2) c.in-Ok.ensures.meets told.1)
          (subst (λ (bytes : List ℕ). SendsMap bytes map (made.0 ++ sent.0)) c.deref.ensures.value sent.2) (Appends-append _ _ _ told.0 _ told.2 rest),
    )

pub returns : goal.returns
returns g c =
    let job = c.in_ok-texts.ensures.did in
    let made = c.in_ok-map.ensures.did in
    let map = c.args.request.now.map in
    let sent = c.in-Ok-send_map.ensures map made.0 made.2 in
    let told = c.in-Ok.ensures.told in
    let held = g.O.ByteOut.held in
    let rest = subst (λ (bytes : List ℕ). Cuts (held c.print_lines.new.out) (held c.put_all.new.writer) bytes) c.deref-2.ensures.value c.in-Err-put_all.ensures.bytes in (
      _,
      adds_both job.1 (adds_both made.1 sent.1),
      Unprinted (outline told.0 c.in-Ok.told) job.0 (made.0 ++ sent.0) _
          (tells_job c.in_ok-texts.len (job_by _ _ c.inputs_of-inputs.ensures job.2) c.in-Ok.ensures.meets told.1)
          (subst (λ (bytes : List ℕ). SendsMap bytes map (made.0 ++ sent.0)) c.deref.ensures.value sent.2) told.2 rest
          (c.in-Err-put_all.ensures.count ∙ ap one_more c.in-Ok.ensures.count),
    )
