-- The text of the steps of units.
use Rattle.std.proofs.Common.{◌≡◌, ℕ, List, [], ◌∷◌, ◌++◌, refl, sym, ◌∙◌, ap}
use Rattle.std.specs.Prelude.{flat_map}
use Rattle.nor_base.specs.Operations.{Op, unit_ops}
use Rattle.nor_base.specs.Script.{step_lines}
use Rattle.nor_base.specs.Units.{WorkUnit}
use Rattle.nor_steps.specs.Stretch.{stretch}
use Rattle.nor_steps.specs.Texts.{unit_steps, units_text, IsText}
use Rattle.nor_steps.specs.Work.{IsWork}
use Rattle.nor_steps.specs.Writing.{Writing, next_lines, written_on}
use Rattle.nor_steps.proofs.OpLemmas.{lines_join}

pub units_steps : (w : Writing) (content target : List ℕ) (us : List WorkUnit)
    → units_text unit_steps w content target us ≡ next_lines w (flat_map (unit_ops w.streaming.meaning w.verify target) us)
unfolding step_lines
units_steps w content target [] = refl
units_steps w content target (u ∷ us) =
    let ops = unit_ops w.streaming.meaning w.verify target u in
    ap (λ rest. next_lines w ops ++ rest) (units_steps (written_on w ops) content target us)
    ∙ sym (lines_join w ops (flat_map (unit_ops w.streaming.meaning w.verify target) us))

-- the lines of a stretch's operations are its text
pub work_text : (w : Writing) (at : ℕ) (have want : List ℕ) (ops : List Op) → IsWork w (stretch at have want) ops → IsText unit_steps w (stretch at have want) (next_lines w ops)
work_text w at have want ops work content target has has' =
    let is = work content target has has' in
    record { are = units_steps w content target _ ∙ ap (next_lines w) is.are; sound = is.sound }
