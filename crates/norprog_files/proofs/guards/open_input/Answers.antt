-- A file that was seen is no folder, and counts.
use Rattle.std.proofs.Common.{◌≡◌, ◌++◌, [], ◌∷◌, ◌∙◌, List, append-nil, sym}
use Rattle.nor_base.proofs.FaultLaws.{answered}
use Rattle.norprog_files.specs.Guards.{EndsInput, IsFolder, IsInput, NoInput, NoRoom}
use Rattle.norprog_files.proofs.guards.open_input.Goals as goal

same : {A : Type 0} {after before : List A} → after ≡ before → after ≡ before ++ []
same {before = before} is = is ∙ sym (append-nil before)

pub returns-in_err-file : goal.returns-in_err-file
returns-in_err-file g c =
    let log = c.in_err-file.ensures.0 in (
      log,
      c.in_err-file.ensures.1,
      (
        [],
        sym (append-nil _),
        answered _ (EndsInput c.args.path.now c.args.name log []) _ (NoInput log _ c.in_err-file.ensures.2) c.from_residual.ensures.1,
      ),
    )

pub returns-in-Folder : goal.returns-in-Folder
returns-in-Folder g c =
    let did = c.in_ok-file.ensures in
    (did.0, did.1, ([], sym (append-nil _), IsFolder c.in_ok-file.file c.in_ok-file.stat did.0 did.2 c.in-Folder.is))

pub returns-in_err-push : goal.returns-in_err-push
returns-in_err-push g c =
    let did = c.in_ok-file.ensures in (
      did.0,
      did.1,
      (
        [],
        same c.in_err-push.ensures.items,
        answered _ (EndsInput c.args.path.now c.args.name did.0 []) _ (NoRoom c.in_ok-file.file c.in_ok-file.stat did.0 did.2) c.from_residual-in_err-push.ensures.1,
      ),
    )

pub returns : goal.returns
returns g c =
    let did = c.in_ok-file.ensures in
    (did.0, did.1, (c.in_ok-file.stat.id ∷ [], c.in_ok-push.ensures.items, IsInput c.in_ok-file.file c.in_ok-file.stat did.0 did.2 c.in_default.not-Folder))
