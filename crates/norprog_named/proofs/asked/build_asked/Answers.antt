-- The request that the values spell, or usage; and its report.
use Rattle.std.proofs.Common.{◌∙◌, [], ap, is_some, refl, sym}
use Rattle.std.specs.Prelude.{◌&&◌, Bool}
use Rattle.nor_base.proofs.FaultLaws.{answered}
use Rattle.norprog_files.proofs.FilesLemmas.{adds_none}
use Rattle.norprog_named.specs.Asked.{CutOff, EndsBuildAsked, Formed, Printed, Unformed, Unworked}
use Rattle.norprog_named.proofs.asked.build_asked.Goals as goal

pub returns-in_default-clause-ends : goal.returns-in_default-clause-ends
returns-in_default-clause-ends g c = ([], adds_none _, Unformed (ap (λ (b : Bool). b && is_some c.args.given.out) (sym c.in_default.ensures.forms), refl))

pub returns-in_default-out-clause-ends : goal.returns-in_default-out-clause-ends
returns-in_default-out-clause-ends g c =
    ([], adds_none _, Unformed (ap (λ (b : Bool). b && is_some c.args.given.out) (sym c.in-Some.ensures.forms) ∙ ap is_some c.in_default-out.is, refl))

pub returns-in_err-report-clause-ends : goal.returns-in_err-report-clause-ends
returns-in_err-report-clause-ends g c =
    let did = c.in_err-report.ensures in (
      did.0,
      did.1,
      answered _ (EndsBuildAsked (g.F.Files.unread c.args.files.now) c.args.given _ did.0) _
          (Formed (c.in-Some.request, c.in-Some-out.out_file) did.0 _ (c.in-Some.ensures.values, c.in-Some-out.is) (Unworked _ did.2 refl))
          c.from_residual.ensures.1,
    )

pub returns-in-Ok-clause-ends : goal.returns-in-Ok-clause-ends
returns-in-Ok-clause-ends g c =
    let did = c.in_ok-report.ensures in (
      did.0,
      did.1,
      Formed (c.in-Some.request, c.in-Some-out.out_file) did.0 _ (c.in-Some.ensures.values, c.in-Some-out.is)
          (Printed c.in_ok-report.report did.2 c.in-Ok.ensures.bytes),
    )

pub returns-clause-ends : goal.returns-clause-ends
returns-clause-ends g c =
    let did = c.in_ok-report.ensures in (
      did.0,
      did.1,
      Formed (c.in-Some.request, c.in-Some-out.out_file) did.0 _ (c.in-Some.ensures.values, c.in-Some-out.is)
          (CutOff c.in_ok-report.report did.2 c.in-Err.ensures.bytes c.in-Err.ensures.count),
    )
