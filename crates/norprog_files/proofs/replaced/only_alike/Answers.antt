-- What is found decides, and then its first bytes.
use Rattle.std.proofs.Common.{◌≡◌, ◌∙◌, ℕ, List, [], Ok, Err, subst, sym}
use Rattle.nor_base.proofs.FaultLaws.{answered}
use Rattle.norprog_common.specs.declared.faults.Refusal.TheVariants.{File}
use Rattle.norprog_files.specs.Files.{Denies}
use Rattle.norprog_files.specs.Replaced.{Alike, Free, Spares, Unknown, Unlike, is_alike, name_of}
use Rattle.norprog_files.proofs.FilesLemmas.{adds_none}
use Rattle.norprog_files.proofs.GuardsLemmas.{opened, unopened}
use Rattle.norprog_files.proofs.replaced.only_alike.Goals as goal

pub returns-in_default : goal.returns-in_default
returns-in_default g c = ([], adds_none _, Free (sym c.at_risk.ensures ∙ c.in_default.is))

pub returns-in_err-file : goal.returns-in_err-file
returns-in_err-file g c =
    let did = c.in_err-file.ensures in
    let cant = unopened did.2 in
    let risk = sym c.at_risk.ensures ∙ c.in-Some.is in (
      did.0,
      did.1,
      answered _ (Spares g.D.File.Read.remaining c.args.out c.args.kind c.args.found did.0) _
          (subst (λ log. Spares g.D.File.Read.remaining c.args.out c.args.kind c.args.found log (Err c.in_err-file.field-0.0)) (sym cant.1)
          (Unknown c.in-Some.len cant.0 _ risk (subst (λ n. Denies n c.in_err-file.field-0.0) c.name.ensures cant.2)))
          c.from_residual.ensures.1,
    )

pub returns-in_err-front : goal.returns-in_err-front
returns-in_err-front g c =
    let did = c.in_ok-file.ensures in
    let risk = sym c.at_risk.ensures ∙ c.in-Some.is in (
      did.0,
      did.1,
      answered _ (Spares g.D.File.Read.remaining c.args.out c.args.kind c.args.found did.0) _
          (subst (λ log. Spares g.D.File.Read.remaining c.args.out c.args.kind c.args.found log (Err c.in_err-front.field-0.0)) (sym (opened did.2))
          (Unknown c.in-Some.len (Ok c.in_ok-file.file) _ risk (subst (λ n. Denies n c.in_err-front.field-0.0) c.name-2.ensures c.in_err-front.ensures.refused)))
          c.from_residual-in_err-front.ensures.1,
    )

pub returns-then-is_alike : goal.returns-then-is_alike
returns-then-is_alike g c =
    let did = c.in_ok-file.ensures in
    let risk = sym c.at_risk.ensures ∙ c.in-Some.is in
    let front = c.in_ok-front.front.items in
    let alike = subst (λ (bytes : List ℕ). is_alike c.args.kind c.in-Some.len bytes ≡ _) c.as_slice.ensures.value (sym c.is_alike.ensures ∙ c.if-is_alike.true) in (
      did.0,
      did.1,
      subst (λ log. Spares g.D.File.Read.remaining c.args.out c.args.kind c.args.found log (Ok tt)) (sym (opened did.2))
          (Alike c.in-Some.len c.in_ok-file.file front risk c.in_ok-front.ensures.front alike),
    )

pub returns : goal.returns
returns g c =
    let did = c.in_ok-file.ensures in
    let risk = sym c.at_risk.ensures ∙ c.in-Some.is in
    let front = c.in_ok-front.front.items in
    let other = subst (λ (bytes : List ℕ). is_alike c.args.kind c.in-Some.len bytes ≡ _) c.as_slice.ensures.value (sym c.is_alike.ensures ∙ c.if-is_alike.false) in (
      did.0,
      did.1,
      subst (λ n. Spares g.D.File.Read.remaining c.args.out c.args.kind c.args.found did.0 (Err (File n))) (sym c.name-else-is_alike.ensures)
          (subst (λ log. Spares g.D.File.Read.remaining c.args.out c.args.kind c.args.found log (Err (File (name_of c.args.kind)))) (sym (opened did.2))
          (Unlike c.in-Some.len c.in_ok-file.file front risk c.in_ok-front.ensures.front other)),
    )
