-- What was made is the blank image.
use Rattle.std.proofs.Common.{◌≡◌, true, replicate, rules}
use Rattle.norprog_flash.proofs.BlankLemmas.{blank_is}
use Rattle.norprog_flash.proofs.blank.blank_image.Goals as goal

pub returns-in-Ok-of_bytes-clause-image : goal.returns-in-Ok-of_bytes-clause-image
returns-in-Ok-of_bytes-clause-image c =
    let asked : c.args.blank ≡ true = search rules in
    let bytes : c.as_slice.result.now ≡ replicate c.args.size 0xFF = search rules in
    blank_is c.args.blank c.args.size c.as_slice.result.now c.in-Ok-of_bytes.image asked bytes c.in-Ok-of_bytes.ensures.just
