-- The first texts are there.
use Rattle.std.proofs.Common.{◌≡◌, ◌++◌, map, take}
use Rattle.norprog_common.specs.Image.{bin_in, image_in}
use Rattle.norprog_common.proofs.image.add_raw.Given as goal

abbrev pub invariant-loop-text : goal.invariant-loop-text
invariant-loop-text l =
    map image_in l.images.items ≡ map image_in l.fn.images.items ++ map (λ text. bin_in text.now) (take l.text-index l.texts)
