-- The last block that fits.
use Rattle.std.proofs.Common.{◌∙◌, sym, subst, inl, inr, List}
use Rattle.nor_base.specs.Blocks.{Block}
use Rattle.nor_geometry.specs.Legal.{AreLegalAt}
use Rattle.nor_erase.proofs.TileLemmas.{next_fit, last_is}
use Rattle.nor_erase.proofs.tiles.largest.Goals as goal
use Rattle.nor_erase.proofs.tiles.largest.Goals.{then-fits, else-fits}

pub loop-block-preserved : goal.loop-block-preserved
loop-block-preserved c =
    next_fit c.args.start c.args.end c.as_slice-block-items.result.now c.loop-block.block-index c.block-item.result c.loop-block.best c.if-fits.best
    c.loop-block-test.true c.block-item.is c.loop-block.invariant
    (elim c.if-fits.branch [
      | then-fits w ↦ inl (sym c.fits.ensures ∙ w.if-fits.true, w.best-is)
      | else-fits w ↦ inr (sym c.fits.ensures ∙ w.if-fits.false, w.best-is)
    ])

pub returns : goal.returns
returns c =
    let legal : AreLegalAt c.args.meaning.now c.args.strategy c.args.start c.as_slice-block-items.result.now =
    subst (λ (xs : List Block). AreLegalAt c.args.meaning.now c.args.strategy c.args.start xs) (sym c.as_slice-block-items.ensures.value) c.legal.ensures in
    last_is c.args.meaning.now c.args.strategy c.args.start c.args.end c.as_slice-block-items.result.now c.loop-block.block-index c.loop-block.best
    c.acceptance.ensures legal c.loop-block-test.false c.loop-block.auto.block-index-end c.loop-block.invariant
