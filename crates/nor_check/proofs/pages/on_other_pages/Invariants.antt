-- Those of the pages so far.
use Rattle.std.proofs.Common.{◌≡◌, ◌++◌, map, drop}
use Rattle.nor_base.specs.Chip.{page_sizes}
use Rattle.nor_check.specs.Pages.{others, with_page}
use Rattle.nor_check.proofs.pages.on_other_pages.Given as goal

abbrev pub invariant-loop-page : goal.invariant-loop-page
invariant-loop-page l =
    map (with_page l.chips) (others l.chips.kind.meaning page_sizes)
    ≡ l.all.items ++ map (with_page l.chips) (others l.chips.kind.meaning (drop l.page-index page_sizes))
