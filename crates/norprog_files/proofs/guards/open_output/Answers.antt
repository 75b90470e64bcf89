-- What was asked decides.
use Rattle.nor_base.proofs.FaultLaws.{answered}
use Rattle.std.proofs.Common.{Err, subst}
use Rattle.norprog_files.specs.declared.disk.How.TheVariants.{Empty}
use Rattle.norprog_files.specs.Guards.{EndsApart, EndsOpen, EndsOutput, IsMade, OverInput, OverOther, OverPrinted, printed_to}
use Rattle.norprog_files.proofs.FilesLemmas.{adds_both}
use Rattle.norprog_files.proofs.GuardsLemmas.{apart}
use Rattle.norprog_files.proofs.guards.open_output.Goals as goal

pub returns-in_err-only_apart : goal.returns-in_err-only_apart
returns-in_err-only_apart g c = (
  _,
  adds_both c.stat-found.ensures c.stat-printed.ensures,
  answered _ (EndsOutput (g.D.File.Read.remaining) c.args.out c.args.kind c.args.opened.now _) _
      (OverInput c.stat-found.result c.stat-printed.result _
      (subst (λ n. EndsApart c.args.opened.now n c.stat-found.result (Err c.in_err-only_apart.field-0.0)) c.name-name.ensures c.in_err-only_apart.ensures)) c.from_residual.ensures.1,
)

pub returns-in_err-only_unprinted : goal.returns-in_err-only_unprinted
returns-in_err-only_unprinted g c = (
  _,
  adds_both c.stat-found.ensures c.stat-printed.ensures,
  answered _ (EndsOutput (g.D.File.Read.remaining) c.args.out c.args.kind c.args.opened.now _) _
      (OverPrinted c.stat-found.result c.stat-printed.result _
      (subst (λ n. EndsApart (printed_to c.stat-printed.result) n c.stat-found.result (Err c.in_err-only_unprinted.field-0.0)) c.name-name.ensures c.in_err-only_unprinted.ensures)) c.from_residual-in_err-only_unprinted.ensures.1,
)

pub returns-in_err-only_alike : goal.returns-in_err-only_alike
returns-in_err-only_alike g c = (
  _,
  adds_both c.stat-found.ensures (adds_both c.stat-printed.ensures c.in_err-only_alike.ensures.1),
  answered _ (EndsOutput (g.D.File.Read.remaining) c.args.out c.args.kind c.args.opened.now _) _
      (OverOther c.stat-found.result c.stat-printed.result c.in_err-only_alike.ensures.0 _ c.in_err-only_alike.ensures.2) c.from_residual-in_err-only_alike.ensures.1,
)

pub returns : goal.returns
returns g c = (
  _,
  adds_both c.stat-found.ensures (adds_both c.stat-printed.ensures (adds_both c.in_ok-only_alike.ensures.1 c.open_as.ensures.1)),
  IsMade c.stat-found.result c.stat-printed.result c.in_ok-only_alike.ensures.0 c.open_as.ensures.0 c.open_as.result (apart c.in_ok-only_apart.ensures)
      (apart c.in_ok-only_unprinted.ensures) c.in_ok-only_alike.ensures.2
      (subst (λ n. EndsOpen c.args.out.path.now Empty n c.open_as.ensures.0 c.open_as.result) c.name-name.ensures c.open_as.ensures.2),
)
