-- At the first sign, or without one.
use Rattle.std.proofs.Common.{arith}
use Rattle.std.proofs.lemmas.Str.Pattern.{split_once_first}
use Rattle.norprog_common.proofs.ImageLemmas.{bin_placed, bin_whole}
use Rattle.norprog_common.proofs.image.bin_of.Goals as goal

pub returns-in-Some : goal.returns-in-Some
returns-in-Some c =
    let found = rw c.in-Some.is at (split_once_first 0x3D c.args.text.now c.split_once.result c.split_once.ensures.cases (omega arith)) in
    rw (c.place_of.ensures, found.1, found.2) (bin_placed c.args.text.now found.0)

pub returns-in-None : goal.returns-in-None
returns-in-None c =
    bin_whole c.args.text.now (rw c.in-None.is at (split_once_first 0x3D c.args.text.now c.split_once.result c.split_once.ensures.cases (omega arith)))
