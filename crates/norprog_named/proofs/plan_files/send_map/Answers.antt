-- The file took the picture, and was closed.
use Rattle.std.proofs.Common.{[], ◌∷◌, ◌++◌, subst, sym}
use Rattle.std.specs.Prelude.{MatchResult}
use Rattle.nor_base.proofs.FaultLaws.{answered}
use Rattle.norprog_files.specs.Files.{Event, closing}
use Rattle.norprog_files.proofs.FilesLemmas.{adds_none, lost}
use Rattle.norprog_named.specs.Plan.{LosesMap, SendsMap}
use Rattle.norprog_named.proofs.PlanLemmas.{loses, none_sent, sends}
use Rattle.norprog_named.proofs.plan_files.send_map.Goals as goal

pub returns-in_default : goal.returns-in_default
returns-in_default g c named made was =
    let none = rw c.in_default.is at was in
    ([], adds_none _, none_sent c.args.picture.now none)

pub returns-in_err-put : goal.returns-in_err-put
returns-in_err-put g c named made was =
    let map = c.in-Some.field-0 in
    let some = rw c.in-Some.is at was in
    let held = g.F.Output.ByteOut.held c.put_all-put.new.writer in
    let log = closing c.close-closed.result map.out.path.now held ∷ [] in
    let failed = lost c.close-closed.result map.out.path.now held (g.F.Output.ByteOut.count map.file) _ c.close-closed.ensures.unfailed c.in_err-put.ensures.count in (
      log,
      c.close-closed.ensures.did,
      answered c.from_residual.result (λ r. MatchResult r (λ _. SendsMap c.args.picture.now named (made ++ log)) (λ _. LosesMap named (made ++ log))) _
          (subst (λ (e : Event). LosesMap named (made ++ (e ∷ []))) (sym failed) (loses held some)) c.from_residual.ensures.1,
    )

pub returns : goal.returns
returns g c named made was =
    let some = rw c.in-Some.is at was in
    let held = g.F.Output.ByteOut.held c.put_all-put.new.writer in
    (_, c.close-closed.ensures.did, sends c.args.picture.now held c.close-closed.result some c.in_ok-put.ensures.bytes)
