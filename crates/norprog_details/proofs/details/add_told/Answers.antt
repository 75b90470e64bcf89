-- The option's file, or none.
use Rattle.std.proofs.Common.{[], subst}
use Rattle.norprog_details.specs.Details.{AreLooks, NoLook}
use Rattle.norprog_files.proofs.FilesLemmas.{adds_none}
use Rattle.norprog_details.proofs.details.add_told.Goals as goal

pub returns-then-not-is_about : goal.returns-then-not-is_about
returns-then-not-is_about g c = ([], adds_none _, NoLook)

pub returns : goal.returns
returns g c =
    let seen = c.look_at-seen.ensures in
    (_, seen.1, subst (λ path. AreLooks path seen.0) c.file_of-file.ensures seen.2)
