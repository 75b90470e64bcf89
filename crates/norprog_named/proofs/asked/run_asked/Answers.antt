-- The request that the values spell, or why there is none; and its verdict's line.
use Rattle.std.proofs.Common.{[], refl}
use Rattle.nor_base.proofs.FaultLaws.{answered}
use Rattle.norprog_files.proofs.FilesLemmas.{adds_none}
use Rattle.norprog_named.specs.Asked.{CutOff, EndsRunAsked, Printed, Spelled, Unworked, Unspelled}
use Rattle.norprog_named.proofs.asked.run_asked.Goals as goal

pub returns-in_err-request-clause-ends : goal.returns-in_err-request-clause-ends
returns-in_err-request-clause-ends g c =
    ([], adds_none _, answered _ (EndsRunAsked (g.F.Files.unread c.args.files.now) c.args.given _ []) _ (Unspelled _ c.in_err-request.ensures.refused refl) c.from_residual.ensures.1)

pub returns-in_err-verdict-clause-ends : goal.returns-in_err-verdict-clause-ends
returns-in_err-verdict-clause-ends g c =
    let did = c.in_err-verdict.ensures in (
      did.0,
      did.1,
      answered _ (EndsRunAsked (g.F.Files.unread c.args.files.now) c.args.given _ did.0) _
          (Spelled c.in_ok-request.request did.0 _ c.in_ok-request.ensures.values (Unworked _ did.2 refl))
          c.from_residual-in_err-verdict.ensures.1,
    )

pub returns-in-Ok-clause-ends : goal.returns-in-Ok-clause-ends
returns-in-Ok-clause-ends g c =
    let did = c.in_ok-verdict.ensures in (
      did.0,
      did.1,
      rw c.status_of.ensures (Spelled c.in_ok-request.request did.0 _ c.in_ok-request.ensures.values (Printed c.in_ok-verdict.verdict did.2 c.in-Ok.ensures.bytes)),
    )

pub returns-in-Err-clause-ends : goal.returns-in-Err-clause-ends
returns-in-Err-clause-ends g c =
    let did = c.in_ok-verdict.ensures in (
      did.0,
      did.1,
      Spelled c.in_ok-request.request did.0 _ c.in_ok-request.ensures.values
          (CutOff c.in_ok-verdict.verdict did.2 c.in-Err.ensures.bytes c.in-Err.ensures.count),
    )
