-- Each step that ends it.
use Rattle.std.proofs.Common.{[], ◌∷◌, ◌++◌}
use Rattle.nor_base.proofs.FaultLaws.{answered}
use Rattle.norprog_files.specs.Files.{Denied, Made, closing}
use Rattle.norprog_files.proofs.FilesLemmas.{adds_both, closed, lost}
use Rattle.norprog_files.specs.declared.replaced.OutKind.TheVariants.{Script}
use Rattle.norprog_named.specs.Script.{EndsScript, NoInput, NoOutput, Refused, Unsent, Written}
use Rattle.norprog_named.proofs.ScriptLemmas.{refused_of, written_of}
use Rattle.norprog_named.proofs.script_files.script.Goals as goal

pub returns-in_err-tables : goal.returns-in_err-tables
returns-in_err-tables g c =
    let did = c.in_err-tables.ensures in
    (did.0, did.1, answered _ (EndsScript c.args.request did.0) _ (NoInput did.0 _ did.2) c.from_residual.ensures.1)

pub returns-in_err-out : goal.returns-in_err-out
returns-in_err-out g c =
    let did = c.in_ok-tables.ensures in (
      _,
      adds_both did.1 c.in_err-out.ensures.did,
      answered _ (EndsScript c.args.request (did.0 ++ (Denied c.args.request.out.path.now ∷ []))) _ (NoOutput c.in_ok-tables.tables.items c.in_ok-tables.text.items did.0 _ did.2 c.in_err-out.ensures.refused)
          c.from_residual-in_err-out.ensures.1,
    )

pub returns-in_err-tally : goal.returns-in_err-tally
returns-in_err-tally g c =
    let out = c.args.request.out.path.now in
    let did = c.in_ok-tables.ensures in
    let begun = g.F.Output.ByteOut.held c.in_ok-out.out in
    let held = g.F.Output.ByteOut.held c.write_log-written.new.out in
    let last = closing c.close-closed.result out held in (
      _,
      adds_both did.1 (adds_both c.in_ok-out.ensures.did c.close-closed.ensures.did),
      answered _ (EndsScript c.args.request (did.0 ++ (Made c.args.request.out Script begun ∷ last ∷ []))) _
          (Refused c.in_ok-tables.tables.items c.in_ok-tables.text.items did.0 begun held last _ did.2 (refused_of c.args.request begun held c.in_err-tally.field-0.0 c.as_slice.ensures.value c.as_slice-2.ensures.value c.in_err-tally.ensures.refused) (closed c.close-closed.result out held)
          (λ is. lost c.close-closed.result out held _ _ c.close-closed.ensures.unfailed (c.in_err-tally.ensures.failed is)))
          c.from_residual-in_err-tally.ensures.1,
    )

pub returns-in-Ok : goal.returns-in-Ok
returns-in-Ok g c =
    let did = c.in_ok-tables.ensures in (
      _,
      adds_both did.1 (adds_both c.in_ok-out.ensures.did c.in-Ok.ensures.did),
      Written c.in_ok-tables.tables.items c.in_ok-tables.text.items did.0 _ _ _ did.2 (written_of c.args.request (g.F.Output.ByteOut.held c.in_ok-out.out) (g.F.Output.ByteOut.held c.write_log-written.new.out) c.in_ok-tally.tally c.as_slice.ensures.value c.as_slice-2.ensures.value c.in_ok-tally.ensures.written),
    )

pub returns : goal.returns
returns g c =
    let did = c.in_ok-tables.ensures in (
      _,
      adds_both did.1 (adds_both c.in_ok-out.ensures.did c.in-Err.ensures.did),
      Unsent c.in_ok-tables.tables.items c.in_ok-tables.text.items did.0 _ _ _ did.2 (written_of c.args.request (g.F.Output.ByteOut.held c.in_ok-out.out) (g.F.Output.ByteOut.held c.write_log-written.new.out) c.in_ok-tally.tally c.as_slice.ensures.value c.as_slice-2.ensures.value c.in_ok-tally.ensures.written),
    )
