use Rattle.std.proofs.Common.{◌∙◌, sym, ap, subst}
use Rattle.nor_sheet.specs.Meaning.{lack_of, parameters_by}
use Rattle.nor_sheet.specs.Sheet.{AreSaid}
use Rattle.nor_sheet.specs.View.{shown}
use Rattle.nor_sheet.proofs.MeaningLemmas.{accepted}
use Rattle.nor_sheet.proofs.meaning.meaning_of.Goals as goal

pub invariant_of-result : goal.invariant_of-result
invariant_of-result c =
    let lacks = ap (λ s. lack_of (parameters_by s c.in_ok-size.size c.in_ok-page.page c.in_ok-width.width)) c.sheet.view_is ∙ sym c.lack_of.ensures ∙ c.in_default.is in
    rw (c.switch_of.ensures, c.switch_of-2.ensures, c.quad_read_of.ensures, c.offered-offered.ensures)
    (accepted (shown c.sheet.inside) c.in_ok-size.size c.in_ok-page.page c.in_ok-width.width
    (subst AreSaid (sym c.sheet.view_is) c.requires) c.in_ok-size.ensures.ok_part c.in_ok-page.ensures.ok_part lacks)
