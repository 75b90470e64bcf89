-- Both are of the option's file.
use Rattle.norprog_details.proofs.LookLemmas.{both}
use Rattle.norprog_files.proofs.FilesLemmas.{adds_both}
use Rattle.norprog_details.proofs.details.look_at.Goals as goal

pub returns : goal.returns
returns g c =
    let asked = c.trouble_of-trouble.ensures in
    let read = c.held_by-text.ensures in
    (_, adds_both asked.1 read.1, both asked.2 read.2)
