-- Each step that ends it.
use Rattle.std.proofs.Common.{[], ◌∷◌}
use Rattle.nor_base.proofs.FaultLaws.{answered}
use Rattle.norprog_files.specs.Files.{Denied}
use Rattle.norprog_files.proofs.FilesLemmas.{adds_both}
use Rattle.norprog_named.specs.Saved.{Saved, Saves, Unmade, Unsent}
use Rattle.norprog_named.proofs.SavedLemmas.{took_all}
use Rattle.norprog_named.proofs.saved.save.Goals as goal

pub returns-in_err-file : goal.returns-in_err-file
returns-in_err-file g c =
    let path = c.args.path.now in
    let log = Denied path ∷ [] in
    (log, c.in_err-file.ensures.did, answered _ (Saves path c.args.name c.args.bytes.now log) _ (Unmade _ c.in_err-file.ensures.refused) c.from_residual.ensures.1)

pub returns-in-Ok : goal.returns-in-Ok
returns-in-Ok g c = (
  _,
  adds_both c.in_ok-file.ensures.did c.in-Ok.ensures.did,
  Saved _ _ (took_all _ _ _ _ c.put_all.result c.args.bytes.now c.put_all.ensures.bytes c.put_all.ensures.count c.in-Ok.ensures.unfailed),
)

pub returns-in-Err : goal.returns-in-Err
returns-in-Err g c = (_, adds_both c.in_ok-file.ensures.did c.in-Err.ensures.did, Unsent _ _)
