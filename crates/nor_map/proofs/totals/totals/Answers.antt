-- The parts, joined.
use Rattle.std.proofs.Common.{◌∙◌, ap}
use Rattle.std.specs.Prelude.{decimal}
use Rattle.nor_map.proofs.TotalLemmas.{totals_are}
use Rattle.nor_map.proofs.totals.totals.Goals as goal

pub returns : goal.returns
returns c =
    totals_are c.args.marks.now _ _ _ _ _ _ c.join.result
    (c.as_bytes.ensures.value ∙ c.format.ensures.text ∙ ap (λ m. decimal m.blocks) c.marks.view_is)
    (c.as_bytes-2.ensures.value ∙ c.format-2.ensures.text ∙ ap (λ m. decimal m.programs) c.marks.view_is)
    (c.as_bytes-3.ensures.value ∙ c.format-3.ensures.text ∙ ap decimal c.cells_in.ensures)
    (c.as_bytes-4.ensures.value ∙ c.format-4.ensures.text ∙ ap decimal c.cells_in-2.ensures)
    (c.as_bytes-5.ensures.value ∙ c.format-5.ensures.text ∙ ap decimal c.cells_in-3.ensures)
    (c.as_bytes-6.ensures.value ∙ c.format-6.ensures.text ∙ ap decimal c.cells_in-4.ensures)
    c.join.ensures
