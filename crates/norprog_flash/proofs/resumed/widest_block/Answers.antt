-- One cell more, and all of them.
use Rattle.std.proofs.Common.{◌≡◌, ℕ, ◌+◌, ◌<◌, ◌*◌, ◌∙◌, ap, arith, max}
use Rattle.nor_base.specs.Blocks.{Block}
use Rattle.norprog_flash.specs.Resumed.{IsBlock}
use Rattle.norprog_flash.proofs.ResumedLemmas.{FineBelow, a_block, no_block, none_yet}
use Rattle.norprog_flash.proofs.resumed.widest_block.Goals as goal
use Rattle.norprog_flash.proofs.resumed.widest_block.Goals.{in-Some, in_default}

pub loop-cell-init : goal.loop-cell-init
loop-cell-init c = none_yet c.args.meaning.now

pub loop-cell-preserved : goal.loop-cell-preserved
loop-cell-preserved c = elim c.match-smallest.branch [
  | in-Some w ↦
      let m = c.args.meaning.now in
      let same : c.meaning.inside.size ≡ m.size = ap (λ x. x.size) c.meaning.view_is in
      let b = w.in-Some.block in
      let bytes : w.block.inside.size ≡ b.size = ap (λ x. x.size) w.block.view_is in
      let inside : c.loop-cell.cell * 256 < m.size = omega (arith, c.loop-cell-test.true, same) in
      let more : c.match-smallest.size ≡ max c.loop-cell.size b.size = omega (arith, w.size-is, w.max-size.ensures, bytes) in
      a_block m c.loop-cell.cell c.loop-cell.size c.loop-cell.invariant b c.match-smallest.size inside w.in-Some.ensures more
  | in_default w ↦ rw w.size-is (no_block c.args.meaning.now c.loop-cell.cell c.loop-cell.size c.loop-cell.invariant w.in_default.ensures)
]

pub returns : goal.returns
returns c =
    let m = c.args.meaning.now in
    let same : c.meaning.inside.size ≡ m.size = ap (λ x. x.size) c.meaning.view_is in
    let fine : FineBelow m c.loop-cell.cell c.loop-cell.size = c.loop-cell.invariant in
    let whole = c.meaning.invariant.size_whole in
    record {
      page = fine.page;
      blocks = λ b is. let below : is.0 < c.loop-cell.cell = omega (arith, is.1, same, whole, c.loop-cell-test.false) in fine.blocks is.0 below b is.2;
      one = fine.one;
    }
