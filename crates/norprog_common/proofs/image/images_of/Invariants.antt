-- The first files are there.
use Rattle.std.proofs.Common.{◌≡◌, map, take}
use Rattle.norprog_common.specs.Image.{Hex, Image, image_in}
use Rattle.norprog_common.proofs.image.images_of.Given as goal

abbrev pub invariant-loop-path : goal.invariant-loop-path
invariant-loop-path l = map image_in l.images.items ≡ map {B = Image} (λ path. Hex path.now) (take l.path-index l.fn.given.hex.items)
