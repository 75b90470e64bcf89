-- The chip that the values spell, or usage; and the lines of its meaning.
use Rattle.std.proofs.Common.{[], refl, sym}
use Rattle.nor_base.proofs.FaultLaws.{answered}
use Rattle.norprog_files.proofs.FilesLemmas.{adds_none}
use Rattle.norprog_named.specs.Asked.{CutOff, EndsSfdpAsked, Formed, Printed, Unformed, Unworked}
use Rattle.norprog_named.proofs.asked.sfdp_asked.Goals as goal

pub returns-in_default-clause-ends : goal.returns-in_default-clause-ends
returns-in_default-clause-ends g c = ([], adds_none _, Unformed (sym c.in_default.ensures.forms, refl))

pub returns-in_err-meaning-clause-ends : goal.returns-in_err-meaning-clause-ends
returns-in_err-meaning-clause-ends g c =
    let did = c.in_err-meaning.ensures in (
      did.0,
      did.1,
      answered _ (EndsSfdpAsked c.args.given _ did.0) _ (Formed c.in-Some.setup did.0 _ c.in-Some.ensures.values (Unworked _ did.2 refl))
          c.from_residual.ensures.1,
    )

pub returns-in-Ok-clause-ends : goal.returns-in-Ok-clause-ends
returns-in-Ok-clause-ends g c =
    let did = c.in_ok-meaning.ensures in
    (did.0, did.1, Formed c.in-Some.setup did.0 _ c.in-Some.ensures.values (Printed c.in_ok-meaning.meaning did.2 c.in-Ok.ensures.bytes))

pub returns-in-Err-clause-ends : goal.returns-in-Err-clause-ends
returns-in-Err-clause-ends g c =
    let did = c.in_ok-meaning.ensures in (
      did.0,
      did.1,
      Formed c.in-Some.setup did.0 _ c.in-Some.ensures.values
          (CutOff c.in_ok-meaning.meaning did.2 c.in-Err.ensures.bytes c.in-Err.ensures.count),
    )
