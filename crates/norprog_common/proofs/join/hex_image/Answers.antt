-- A fault of the text, as one of a build.
use Rattle.norprog_common.specs.Image.{NoHex}
use Rattle.norprog_common.proofs.join.hex_image.Goals as goal

pub returns-in-Err-clause-refused : goal.returns-in-Err-clause-refused
returns-in-Err-clause-refused c = rw c.from.ensures (NoHex c.in-Err.fault c.in-Err.ensures.fault)
