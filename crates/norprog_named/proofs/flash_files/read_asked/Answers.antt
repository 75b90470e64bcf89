-- The file of an image, where it has one.
use Rattle.std.proofs.Common.{[]}
use Rattle.norprog_common.specs.Image.{image_in}
use Rattle.norprog_files.proofs.FilesLemmas.{adds_none}
use Rattle.norprog_named.specs.Flash.{NoImage}
use Rattle.norprog_named.proofs.FlashLemmas.{asked_read}
use Rattle.norprog_named.proofs.flash_files.read_asked.Goals as goal

pub returns-in-Some : goal.returns-in-Some
returns-in-Some g c =
    let did = c.read_image.ensures in
    rw c.in-Some.is (did.0, did.1, asked_read (image_in c.in-Some.image) c.read_image.result did.0 did.2)

pub returns-in-None : goal.returns-in-None
returns-in-None g c = rw c.in-None.is ([], adds_none _, NoImage _)
