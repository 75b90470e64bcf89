-- The block lies on the chip.
use Rattle.std.proofs.Common.{ap, arith, ◌∙◌}
use Rattle.nor_base.specs.Blocks.{is_legal}
use Rattle.nor_chip.proofs.RangeLemmas.{legal_inside}
use Rattle.nor_check.specs.Chips.{Together}
use Rattle.nor_check.proofs.chips.AllChips.erase.Goals as goal

pub fill_block-requires : goal.fill_block-requires
fill_block-requires c =
    omega (
      arith,
      legal_inside c.self.inside.meaning.now c.args.kind c.args.start c.acceptance.ensures
          (ap (λ (v : Together). is_legal v.kind.meaning c.args.kind c.args.start) c.self.view_is ∙ c.requires),
      c.block_size-size.ensures,
      c.self.invariant.0,
      c.as_mut_slice.ensures.len,
    )
