-- What is written of the work of a stretch of a chip, unit after unit (this project's).
use Rattle.std.specs.Prelude.{◌≡◌, ◌⊎◌, ℕ, List, [], ◌∷◌, ◌++◌, length, Option}
use Rattle.std.specs.Io.KnownBytes.{Appends}
use Rattle.nor_base.specs.Operations.{Op, unit_ops}
use Rattle.nor_base.specs.Units.{WorkUnit}
use Rattle.nor_geometry.specs.Plan.{IsFault}
use Rattle.nor_steps.specs.Stretch.{Stretch, Extent, OnEveryChip}
use Rattle.nor_steps.specs.declared.fault.StepsFault.{StepsFault}
use Rattle.nor_steps.specs.declared.fault.StepsFault.TheVariants as fault
use Rattle.nor_steps.specs.declared.tally.Tally.{Tally}
use Rattle.nor_steps.specs.Tally.{tally_of, IsFew}
use Rattle.nor_steps.specs.Work.{stretch_units, IsSound, IsWork}
use Rattle.nor_steps.specs.Writing.{Writing, Output, next_lines, written_on}

-- the text of a unit of the work on a content and its target, by how far the work is before it
abbrev pub UnitText : Type 0
UnitText = Writing → List ℕ → List ℕ → WorkUnit → List ℕ

-- so it is of the steps: the lines of those of its operations
abbrev pub unit_steps : UnitText
unit_steps w content target u = next_lines w (unit_ops w.streaming.meaning w.verify target u)

-- the text of units one after another
abbrev pub units_text : UnitText → Writing → List ℕ → List ℕ → List WorkUnit → List ℕ
units_text text w content target [] = []
units_text text w content target (u ∷ us) =
    text w content target u ++ units_text text (written_on w (unit_ops w.streaming.meaning w.verify target u)) content target us

-- of those that start in an extent
abbrev pub stretch_text : UnitText → Writing → Extent → List ℕ
stretch_text text w e = units_text text w e.content e.target (stretch_units w.streaming.meaning w.streaming.by e)

-- bytes are the text of an extent, of which no address is at fault
pub record IsTextOf (text : UnitText) (w : Writing) (e : Extent) (these : List ℕ) : Type 0 where
  pub are : stretch_text text w e ≡ these
  pub sound : IsSound w e

abbrev pub IsText : UnitText → Writing → Stretch → List ℕ → Type 0
IsText text w p these = OnEveryChip p (λ e. IsTextOf text w e these)

-- bytes with which the text of an extent begins, of which no address is at fault
pub record IsBegunTextOf (text : UnitText) (w : Writing) (e : Extent) (front : List ℕ) : Type 0 where
  pub rest : List ℕ
  pub whole : stretch_text text w e ≡ front ++ rest
  pub sound : IsSound w e

abbrev pub IsBegunText : UnitText → Writing → Stretch → List ℕ → Type 0
IsBegunText text w p front = OnEveryChip p (λ e. IsBegunTextOf text w e front)

-- how much the steps of a stretch are is told
pub record IsTold (w v : Writing) (p : Stretch) (told : Tally) : Type 0 where
  pub ops : List Op
  pub work : IsWork w p ops
  pub state : v ≡ written_on w ops
  pub its_tally : told ≡ tally_of w.streaming ops
  pub few : IsFew (length p.have) told

-- it is, and the text of the stretch was written
pub record WroteText (text : UnitText) (before after : Output) (p : Stretch) (told : Tally) : Type 0 where
  pub steps : IsTold before.work after.work p told
  pub these : List ℕ
  pub is : IsText text before.work p these
  pub put : Appends before.held after.held these

-- some of the text was, from its beginning on
pub record HasText (text : UnitText) (w : Writing) (before after : Option (List ℕ)) (p : Stretch) : Type 0 where
  pub front : List ℕ
  pub begun : IsBegunText text w p front
  pub put : Appends before after front

-- why it was not: an address is at fault, and nothing was written; or the writer failed, or a growth was refused
abbrev pub StopsText : UnitText → Output → Option (List ℕ) → Stretch → StepsFault → Type 0
StopsText text before after p (fault.Plan why) =
    IsFault before.work.streaming.meaning before.work.streaming.by p.at p.have p.want why × Appends before.held after []
StopsText text before after p fault.Write = HasText text before.work before.held after p
StopsText text before after p fault.Memory = HasText text before.work before.held after p ⊎ Appends before.held after []
