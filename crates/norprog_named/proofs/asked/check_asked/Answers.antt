-- The request that the values spell, or usage; and the lines of what is found.
use Rattle.std.proofs.Common.{◌∙◌, [], ap, is_some, option_map, refl, sym}
use Rattle.std.specs.Prelude.{◌&&◌, Bool}
use Rattle.nor_base.proofs.FaultLaws.{answered}
use Rattle.norprog_files.proofs.FilesLemmas.{adds_none}
use Rattle.norprog_named.specs.Asked.{CutOff, EndsCheckAsked, Formed, Printed, Unformed, Unworked}
use Rattle.norprog_named.proofs.asked.check_asked.Goals as goal

pub returns-in_default-clause-ends : goal.returns-in_default-clause-ends
returns-in_default-clause-ends g c = ([], adds_none _, Unformed (ap (λ (b : Bool). b && is_some c.args.given.script) (sym c.in_default.ensures.forms), refl))

pub returns-in_default-script-clause-ends : goal.returns-in_default-script-clause-ends
returns-in_default-script-clause-ends g c =
    ([], adds_none _, Unformed (ap (λ (b : Bool). b && is_some c.args.given.script) (sym c.in-Some.ensures.forms) ∙ ap is_some c.in_default-script.is, refl))

pub returns-in_err-found-clause-ends : goal.returns-in_err-found-clause-ends
returns-in_err-found-clause-ends g c =
    let did = c.in_err-found.ensures in (
      did.0,
      did.1,
      answered _ (EndsCheckAsked (g.F.Files.unread c.args.files.now) c.args.given _ did.0) _
          (Formed (c.in-Some.request, c.in-Some-script.path.now) did.0 _ (c.in-Some.ensures.values, ap (option_map (λ t. t.now)) c.in-Some-script.is) (Unworked _ did.2 refl))
          c.from_residual.ensures.1,
    )

pub returns-in-Ok-clause-ends : goal.returns-in-Ok-clause-ends
returns-in-Ok-clause-ends g c =
    let did = c.in_ok-found.ensures in (
      did.0,
      did.1,
      rw c.verdict_status.ensures (Formed (c.in-Some.request, c.in-Some-script.path.now) did.0 _ (c.in-Some.ensures.values, ap (option_map (λ t. t.now)) c.in-Some-script.is)
          (Printed c.in_ok-found.found did.2 c.in-Ok.ensures.bytes)),
    )

pub returns-clause-ends : goal.returns-clause-ends
returns-clause-ends g c =
    let did = c.in_ok-found.ensures in (
      did.0,
      did.1,
      Formed (c.in-Some.request, c.in-Some-script.path.now) did.0 _ (c.in-Some.ensures.values, ap (option_map (λ t. t.now)) c.in-Some-script.is)
          (CutOff c.in_ok-found.found did.2 c.in-Err.ensures.bytes c.in-Err.ensures.count),
    )
