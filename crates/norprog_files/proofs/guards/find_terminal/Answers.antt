-- The list decides.
use Rattle.std.proofs.Common.{◌∙◌, subst}
use Rattle.nor_base.proofs.FaultLaws.{answered}
use Rattle.norprog_files.specs.Files.{Unusable}
use Rattle.norprog_files.specs.Guards.{FindsTerminal, IsTerminal, NoDevice, NoList, NoTerminal}
use Rattle.norprog_files.specs.Terminal.{IsListed}
use Rattle.norprog_files.proofs.FilesLemmas.{adds_both}
use Rattle.norprog_files.proofs.guards.find_terminal.Goals as goal

pub returns-in-Err : goal.returns-in-Err
returns-in-Err g c = (_, c.in-Err.ensures, NoDevice _ _ c.refusal_of.ensures)

pub returns-in_default : goal.returns-in_default
returns-in_default g c = (_, c.in-Ok.ensures, NoDevice _ _ Unusable)

pub returns-in_err-list : goal.returns-in_err-list
returns-in_err-list g c =
    let list = c.in_err-list.ensures in (
      _,
      adds_both c.in-Ok.ensures list.1,
      answered _ (FindsTerminal g.D.File.Read.remaining c.args.path.now _) _ (NoList c.in-Ok.stat list.0 _ list.2) c.from_residual.ensures.1,
    )

pub returns-in_err-bytes : goal.returns-in_err-bytes
returns-in_err-bytes g c =
    let list = c.in_ok-list.ensures in (
      _,
      adds_both c.in-Ok.ensures list.1,
      answered _ (FindsTerminal g.D.File.Read.remaining c.args.path.now _) _
          (NoTerminal c.in-Ok.stat c.in_ok-list._seen c.in_ok-list.list list.0 _ list.2 c.in_err-bytes.ensures.refused) c.from_residual-in_err-bytes.ensures.1,
    )

pub returns-in-Ok-from_utf8 : goal.returns-in-Ok-from_utf8
returns-in-Ok-from_utf8 g c =
    let list = c.in_ok-list.ensures in (
      _,
      adds_both c.in-Ok.ensures list.1,
      IsTerminal c.in-Ok.stat c.in_ok-list._seen c.in-Characters.device c.in_ok-list.list c.in_ok-bytes.bytes.items list.0 c.in-Characters.is list.2
          c.in_ok-bytes.ensures.whole (subst (IsListed c.in-Characters.device) (c.in-Ok-from_utf8.ensures.cases.0 ∙ c.as_slice.ensures.value) c.if-is_listed.ensures),
    )

pub returns : goal.returns
returns g c =
    let list = c.in_ok-list.ensures in
    (_, adds_both c.in-Ok.ensures list.1, NoTerminal c.in-Ok.stat c.in_ok-list._seen c.in_ok-list.list list.0 _ list.2 Unusable)
