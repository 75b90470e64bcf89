-- One block more, and none that fits.
use Rattle.std.proofs.Common.{◌≡◌, ℕ, ◌+◌, sym, ap, subst}
use Rattle.nor_base.specs.Blocks.{Block}
use Rattle.nor_erase.proofs.TileLemmas.{IsTiledTo, one_tiled, tiled}
use Rattle.nor_erase.proofs.tiles.push_blocks.Goals as goal

pub loop-block-preserved : goal.loop-block-preserved
loop-block-preserved c =
    let size : c.block.inside.size ≡ c.in-Some.block.size = ap (λ (b : Block). b.size) c.block.view_is in
    let next = one_tiled c.args.meaning.now c.args.strategy c.args.low c.args.high c.loop-block.start c.args.units.now.items c.loop-block.units.items c.push.new.self.items c.in-Some.block
    c.loop-block.invariant c.in-Some.ensures c.in_ok-push.ensures.items in
    subst (λ (n : ℕ). IsTiledTo c.args.meaning.now c.args.strategy c.args.low c.args.high (c.loop-block.start + n) c.args.units.now.items c.push.new.self.items) (sym size) next

pub returns : goal.returns
returns c =
    tiled c.args.meaning.now c.args.strategy c.args.low c.args.high c.loop-block.start c.args.units.now.items c.loop-block.units.items c.loop-block.invariant c.in_default.ensures
