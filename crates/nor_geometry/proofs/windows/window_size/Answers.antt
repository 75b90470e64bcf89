-- The greatest of all kinds.
use Rattle.std.proofs.Common.{◌≡◌, ◌∙◌, ap, arith, max}
use Rattle.nor_geometry.proofs.WindowLemmas.{none_yet, one_more, all_kinds, window_power, blocks_uncrossed, pages_uncrossed}
use Rattle.nor_geometry.specs.Window.{IsWindowSize}
use Rattle.nor_geometry.proofs.windows.window_size.Goals as goal

pub loop-kind-init : goal.loop-kind-init
loop-kind-init c = none_yet c.args.meaning.now

pub loop-kind-preserved : goal.loop-kind-preserved
loop-kind-preserved c = one_more c.args.meaning.now c.loop-kind.kind c.loop-kind.window c.max-window.result c.loop-kind.invariant
    (c.max-window.ensures ∙ ap (max c.loop-kind.window) c.live_size.ensures)

pub returns : goal.returns
returns c =
    let end : c.loop-kind.kind ≡ 5 = omega arith in
    let size : IsWindowSize c.args.meaning.now c.loop-kind.window = all_kinds c.args.meaning.now c.loop-kind.window c.acceptance.ensures (rw end at c.loop-kind.invariant) in
    record {
      size = size;
      power = window_power c.args.meaning.now c.loop-kind.window c.acceptance.ensures size;
      blocks = λ border whole b legal. blocks_uncrossed c.args.meaning.now c.loop-kind.window border b c.acceptance.ensures size whole legal;
      pages = λ border start whole aligned. pages_uncrossed c.args.meaning.now c.loop-kind.window border start c.acceptance.ensures size whole aligned;
    }
