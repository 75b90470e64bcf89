-- Both times this file.
use Rattle.std.proofs.Common.{◌≡◌, rules}
use Rattle.nor_base.proofs.FaultLaws.{answered}
use Rattle.norprog_files.specs.Guards.{BecomesAnother, IsAnother, IsUnasked, OpensSame, StaysSame, Unseen_again}
use Rattle.norprog_files.proofs.FilesLemmas.{adds_both}
use Rattle.norprog_files.proofs.guards.open_same.Goals as goal

pub returns-in-Err : goal.returns-in-Err
returns-in-Err g c = (_, c.in-Err.ensures, IsUnasked c.in-Err.error _ c.refusal_of.ensures)

pub returns-then-ne : goal.returns-then-ne
returns-then-ne g c = (_, c.in-Ok.ensures, IsAnother c.in-Ok.stat (λ same. search rules))

pub returns-in_err-file : goal.returns-in_err-file
returns-in_err-file g c =
    let same : c.in-Ok.stat.id ≡ c.args.place = search rules in (
      _,
      adds_both c.in-Ok.ensures c.in_err-file.ensures.1,
      answered _ (OpensSame c.args.path.now c.args.how c.args.place _) _
          (Unseen_again c.in-Ok.stat c.in_err-file.ensures.0 _ same c.in_err-file.ensures.2) c.from_residual.ensures.1,
    )

pub returns-then-ne-2 : goal.returns-then-ne-2
returns-then-ne-2 g c =
    let did = c.in_ok-file.ensures in
    let same : c.in-Ok.stat.id ≡ c.args.place = search rules in (
      _,
      adds_both c.in-Ok.ensures did.1,
      BecomesAnother c.in_ok-file.file c.in-Ok.stat c.in_ok-file.seen did.0 same did.2 (λ again. search rules),
    )

pub returns : goal.returns
returns g c =
    let did = c.in_ok-file.ensures in
    let same : c.in-Ok.stat.id ≡ c.args.place = search rules in
    let again : c.in_ok-file.seen.id ≡ c.args.place = search rules in
    (_, adds_both c.in-Ok.ensures did.1, StaysSame c.in_ok-file.file c.in-Ok.stat c.in_ok-file.seen did.0 same did.2 again)
