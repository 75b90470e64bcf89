-- The block goes before the first that is larger, to the end, or nowhere.
use Rattle.std.proofs.Common.{◌≡◌, ℕ, ◌<◌, length, get_or, sym, ◌∙◌, ap, arith}
use Rattle.nor_base.specs.Blocks.{Block}
use Rattle.nor_geometry.specs.Takes.{with_block}
use Rattle.nor_geometry.proofs.ListLemmas.{put_here, there_already, at_the_end}
use Rattle.nor_geometry.proofs.blocks.add.Goals as goal

abbrev bytes_of : Block → ℕ
bytes_of b = b.size

pub returns-then-block-other : goal.returns-then-block-other
returns-then-block-other c =
    let same : c.len-i-end.result ≡ length c.loop-i.blocks.items = c.len-i-end.ensures.value ∙ ap (λ xs. length xs) (sym c.loop-i.invariant.same) in
    let inside : c.loop-i.i < length c.loop-i.blocks.items = omega arith in
    let is : get_or c.loop-i.blocks.items c.loop-i.i c.index-deref-i.result ≡ c.index-deref-i.result =
    ap (λ xs. get_or xs c.loop-i.i c.index-deref-i.result) (sym c.deref.ensures.0) ∙ sym c.index-deref-i.is in
    let size : c.block.inside.size ≡ c.loop-i.block.size = ap bytes_of c.block.view_is in
    let other : c.other.inside.size ≡ c.index-deref-i.result.size = ap bytes_of c.other.view_is in
    c.insert.ensures.items
    ∙ put_here c.loop-i.block c.index-deref-i.result c.loop-i.blocks.items c.loop-i.i inside is (omega arith) c.loop-i.invariant.rest
    ∙ ap (λ b. with_block b c.loop-i.blocks.items) c.loop-i.invariant.given ∙ ap (with_block c.args.block) c.loop-i.invariant.same

pub returns-then-block-other-2 : goal.returns-then-block-other-2
returns-then-block-other-2 c =
    let same : c.len-i-end.result ≡ length c.loop-i.blocks.items = c.len-i-end.ensures.value ∙ ap (λ xs. length xs) (sym c.loop-i.invariant.same) in
    let inside : c.loop-i.i < length c.loop-i.blocks.items = omega arith in
    let is : get_or c.loop-i.blocks.items c.loop-i.i c.index-deref-i.result ≡ c.index-deref-i.result =
    ap (λ xs. get_or xs c.loop-i.i c.index-deref-i.result) (sym c.deref.ensures.0) ∙ sym c.index-deref-i.is in
    let size : c.block.inside.size ≡ c.loop-i.block.size = ap bytes_of c.block.view_is in
    let other : c.other.inside.size ≡ c.index-deref-i.result.size = ap bytes_of c.other.view_is in
    there_already c.loop-i.block c.index-deref-i.result c.loop-i.blocks.items c.loop-i.i inside is (omega arith) c.loop-i.invariant.rest
    ∙ ap (λ b. with_block b c.loop-i.blocks.items) c.loop-i.invariant.given ∙ ap (with_block c.args.block) c.loop-i.invariant.same

pub returns : goal.returns
returns c =
    let same : c.len-i-end.result ≡ length c.loop-i.blocks.items = c.len-i-end.ensures.value ∙ ap (λ xs. length xs) (sym c.loop-i.invariant.same) in
    c.push.ensures.items
    ∙ at_the_end c.loop-i.block c.loop-i.blocks.items c.loop-i.i (omega arith) c.loop-i.invariant.rest
    ∙ ap (λ b. with_block b c.loop-i.blocks.items) c.loop-i.invariant.given ∙ ap (with_block c.args.block) c.loop-i.invariant.same
