-- One terminal, twice.
use Rattle.std.proofs.Common.{Ok, subst, sym}
use Rattle.nor_base.proofs.FaultLaws.{answered}
use Rattle.norprog_files.specs.declared.disk.How.TheVariants.{Read}
use Rattle.norprog_files.specs.Guards.{EndsDevice, IsWired, OpensSame, Unbuffered, Unfound, Unreadable, Unwritable}
use Rattle.norprog_files.proofs.FilesLemmas.{adds_both}
use Rattle.norprog_files.proofs.guards.open_terminal.Goals as goal

pub returns-in_err-place : goal.returns-in_err-place
returns-in_err-place g c =
    let found = c.in_err-place.ensures in
    (found.0, found.1, answered _ (EndsDevice g.D.File.Read.remaining c.args.path.now _) _ (Unfound found.0 _ found.2) c.from_residual.ensures.1)

pub returns-in_err-from : goal.returns-in_err-from
returns-in_err-from g c =
    let found = c.in_ok-place.ensures in
    let from = c.in_err-from.ensures in (
      _,
      adds_both found.1 from.1,
      answered _ (EndsDevice g.D.File.Read.remaining c.args.path.now _) _
          (Unreadable c.in_ok-place.place found.0 from.0 _ found.2 from.2) c.from_residual-in_err-from.ensures.1,
    )

pub returns-in_default : goal.returns-in_default
returns-in_default g c =
    let found = c.in_ok-place.ensures in
    let from = c.in_ok-from.ensures in
    (_, adds_both found.1 from.1, Unbuffered c.in_ok-place.place c.in_ok-from.from found.0 from.0 found.2 from.2)

pub returns-in_err-to : goal.returns-in_err-to
returns-in_err-to g c =
    let found = c.in_ok-place.ensures in
    let from = c.in_ok-from.ensures in
    let to = c.in_err-to.ensures in (
      _,
      adds_both found.1 (adds_both from.1 to.1),
      answered _ (EndsDevice g.D.File.Read.remaining c.args.path.now _) _
          (Unwritable c.in_ok-place.place c.in_ok-from.from found.0 from.0 to.0 _ found.2 from.2 to.2) c.from_residual-in_err-to.ensures.1,
    )

pub returns : goal.returns
returns g c =
    let found = c.in_ok-place.ensures in
    let from = c.in_ok-from.ensures in
    let to = c.in_ok-to.ensures in (
      _,
      adds_both found.1 (adds_both from.1 to.1),
      IsWired c.in_ok-place.place c.in-Ok.from c.in_ok-to.to found.0 from.0 to.0 found.2
          (subst (λ inner. OpensSame c.args.path.now Read c.in_ok-place.place from.0 (Ok inner)) (sym c.in-Ok.ensures.inner) from.2) to.2,
    )
