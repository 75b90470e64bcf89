-- The planned work of a content and its target (this project's).
use Rattle.std.specs.Prelude.{◌≡◌, ◌⊎◌, ℕ, Bool, false, ◌+◌, ◌<◌, ◌≤◌, List, [], ◌∷◌, length, flat_map, slice_index}
use Rattle.nor_base.specs.declared.meaning.Start.{Start}
use Rattle.nor_base.specs.declared.step.Step.{Step}
use Rattle.nor_base.specs.Parameters.{Parameters}
use Rattle.nor_base.specs.Accepted.{IsAccepted}
use Rattle.nor_base.specs.Chip.{begins4}
use Rattle.nor_base.specs.Need.{is_at_fault}
use Rattle.nor_base.specs.Strategies.{strategy}
use Rattle.nor_base.specs.Units.{WorkUnit, units}
use Rattle.nor_base.specs.Spelling.{Instr, AreStepsOf}
use Rattle.nor_base.specs.Operations.{Op, unit_ops, lowered}

-- a content and a target of a chip's size, the target of bytes, and no address at fault
pub record IsWorkable (m : Parameters) (start : Start) (have want : List ℕ) : Type 0 where
  pub accepted : IsAccepted m
  pub have_size : length have ≡ m.size
  pub want_size : length want ≡ m.size
  pub bytes : (a : ℕ) → slice_index want a < 256
  pub sound : (a : ℕ) → a < m.size → is_at_fault m (strategy m start) have want a ≡ false

-- the units, the operations unit after unit, and the instructions of the planned work
abbrev pub planned_units : Parameters → Start → List ℕ → List ℕ → List WorkUnit
planned_units m start have want = units m (strategy m start) have want

abbrev pub planned_ops : Parameters → Start → Bool → List ℕ → List ℕ → List Op
planned_ops m start verify have want = flat_map (unit_ops m verify want) (planned_units m start have want)

abbrev pub planned : Parameters → Start → Bool → List ℕ → List ℕ → List Instr
planned m start verify have want = lowered m start (strategy m start) (planned_ops m start verify have want)

-- the steps are those of the planned work, and no other
abbrev pub ArePlanned : Parameters → Start → Bool → List ℕ → List ℕ → List Step → Type 0
ArePlanned m start verify have want steps = AreStepsOf m (begins4 m start) (planned m start verify have want) steps

-- one of the units lies from one address up to another
abbrev pub IsUnitOver : List WorkUnit → ℕ → ℕ → Type 0
IsUnitOver [] low high = ⊥
IsUnitOver (u ∷ us) low high = ((u.start ≡ low) × (u.start + u.size ≡ high)) ⊎ IsUnitOver us low high

-- an array that is the target below one address, and the content from another on; between the two nothing lies, or one unit
pub record IsInTheMaking (us : List WorkUnit) (have want array : List ℕ) : Type 0 where
  pub low : ℕ
  pub high : ℕ
  pub below : (x : ℕ) → x < low → slice_index array x ≡ slice_index want x
  pub above : (x : ℕ) → high ≤ x → slice_index array x ≡ slice_index have x
  pub between : (low ≡ high) ⊎ IsUnitOver us low high
