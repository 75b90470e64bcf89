-- The bytes of all marks are those of all steps.
use Rattle.std.proofs.Common.{◌≡◌, ◌-◌, ◌^◌, take, sym, ◌∙◌, ap}
use Rattle.std.specs.Prelude.{min, sum_by}
use Rattle.std.proofs.lemmas.List.{take_all}
use Rattle.nor_flasher.specs.Packed.{mark_bytes}
use Rattle.nor_flasher.specs.Progress.{step_bytes}
use Rattle.nor_flasher.proofs.PackedLemmas.{all_counted}
use Rattle.nor_flasher.proofs.packed.PackedSteps.bus_bytes.Goals as goal

pub returns : goal.returns
returns c =
    let marks = c.deref-mark-items.result.now in
    let whole : take c.loop-mark.mark-index marks ≡ marks = take_all c.loop-mark.mark-index marks c.loop-mark-test.false in
    let counted = all_counted c.self.inside.marks.items c.self.inside.bytes.items c.self.invariant in
    c.loop-mark.invariant
    ∙ ap (min (2 ^ 64 - 1))
    (ap (sum_by mark_bytes) (whole ∙ c.deref-mark-items.ensures.value) ∙ sym counted ∙ ap (sum_by step_bytes) c.self.view_is)
