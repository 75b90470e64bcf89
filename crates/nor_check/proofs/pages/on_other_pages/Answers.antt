-- One page more.
use Rattle.std.proofs.Common.{◌≡◌, sym, ◌∙◌}
use Rattle.nor_base.specs.Chip.{page_sizes}
use Rattle.nor_check.proofs.Spread.{page_taken, page_left}
use Rattle.nor_check.proofs.pages.on_other_pages.Goals as goal
use Rattle.nor_check.proofs.pages.on_other_pages.Goals.{then-has_other_page+in_ok-with_page+in_ok-push, else-has_other_page}

pub loop-page-preserved : goal.loop-page-preserved
loop-page-preserved c = elim c.if-has_other_page.branch [
  | then-has_other_page+in_ok-with_page+in_ok-push w ↦
      let same : c.if-has_other_page.all.items ≡ w.push.new.self.items = cc in
      page_taken c.args.chips.now _ c.loop-page.all.items c.if-has_other_page.all.items page_sizes c.loop-page.page-index c.loop-page-test.true c.loop-page.invariant _
      (sym c.has_other_page.ensures ∙ w.if-has_other_page.true) w.in_ok-with_page.ensures (same ∙ w.in_ok-push.ensures.items)
  | else-has_other_page w ↦
      let same : c.if-has_other_page.all.items ≡ c.loop-page.all.items = cc in
      page_left c.args.chips.now _ c.loop-page.all.items c.if-has_other_page.all.items page_sizes c.loop-page.page-index c.loop-page-test.true c.loop-page.invariant
      (sym c.has_other_page.ensures ∙ w.if-has_other_page.false) same
]
