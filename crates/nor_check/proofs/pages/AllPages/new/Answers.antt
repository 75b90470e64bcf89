-- All are alike, or there is one page alone.
use Rattle.std.proofs.Common.{refl, ap, sym, ◌∙◌}
use Rattle.nor_base.specs.Parameters.{Parameters}
use Rattle.nor_check.specs.Chips.{Together, begun}
use Rattle.nor_check.specs.Pages.{page_by_page}
use Rattle.nor_check.proofs.Spread.{begins}
use Rattle.nor_check.proofs.pages.AllPages.new.Goals as goal

pub returns : goal.returns
returns c =
    ap (λ (own : Together). page_by_page c.meaning.inside.open_page own c.new-2.result.items) c.new.ensures
    ∙ ap (page_by_page c.meaning.inside.open_page (begun c.args.meaning.now c.args.start c.args.meaning.now.page c.args.content.items)) c.new-2.ensures.items
    ∙ begins (begun c.args.meaning.now c.args.start c.args.meaning.now.page c.args.content.items) c.meaning.inside.open_page refl
    (sym (ap (λ (m : Parameters). m.open_page) c.meaning.view_is))
