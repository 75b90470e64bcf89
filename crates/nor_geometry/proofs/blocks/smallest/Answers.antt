-- The first of the list.
use Rattle.std.proofs.Common.{◌∙◌, ap}
use Rattle.std.specs.Prelude.{slice_get}
use Rattle.nor_geometry.proofs.PlaceLemmas.{smallest_is}
use Rattle.nor_geometry.proofs.blocks.smallest.Goals as goal

pub returns : goal.returns
returns c =
    smallest_is c.args.meaning.now c.args.strategy c.args.at c.legal.result.items c.copied.result c.legal.ensures
    (c.copied.ensures ∙ c.first.ensures.value ∙ ap (λ xs. slice_get xs 0) c.deref.ensures.0)
