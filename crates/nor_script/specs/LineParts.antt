-- A step's line in parts that borrow from it (this project's).
use Rattle.std.specs.Prelude.{◌≡◌, ◌≤◌, ℕ, ◌+◌, true, List, length, slice_range}
use Rattle.nor_base.specs.declared.step.Step.{Step}
use Rattle.nor_base.specs.declared.step.Step.TheVariants as step
use Rattle.nor_script.specs.declared.line.Kind.{Kind}
use Rattle.nor_script.specs.declared.line.Kind.TheVariants as kind
use Rattle.nor_script.specs.Line.{are_pairs, SpellsStep}
use Rattle.nor_script.specs.Parts.{SpellsBytes}

-- the step of a kind, with these clocks; a Verify expects the bytes
abbrev pub step_by : Kind → List ℕ → List ℕ → Step
step_by kind.Send clocks expect = step.Send clocks
step_by kind.Poll clocks expect = step.Poll clocks
step_by kind.Verify clocks expect = step.Verify clocks expect

-- the line is that of the step with these clocks which expects what the digits spell; the clocks stand behind the line's first
-- two bytes
pub record AreOfLine (line : List ℕ) (kind : Kind) (clocks digits : List ℕ) : Type 0 where
  pub within : 2 + length clocks ≤ length line
  pub place : clocks ≡ slice_range line 2 (2 + length clocks)
  pub pairs : are_pairs digits ≡ true
  pub spells : (expect : List ℕ) → SpellsBytes digits expect → SpellsStep line (step_by kind clocks expect)
