-- What the lines of a listing say (this project's).
use Rattle.std.specs.Prelude.{◌≡◌, ◌⊎◌, ℕ, Bool, List, ◌++◌, codes, decimal, Some}
use Rattle.std.specs.List.{AllByRecursion}
use Rattle.nor_base.specs.declared.step.Step.{Step}
use Rattle.nor_base.specs.Decoding.{opcode}
use Rattle.nor_base.specs.Instructions.{Row, row_of}
use Rattle.nor_base.specs.Parameters.{Parameters}
use Rattle.nor_base.specs.Step.{step_clocks}
use Rattle.nor_listing.specs.declared.reader.Read.{Read}
use Rattle.nor_listing.specs.Law.{IsListable}
use Rattle.nor_listing.specs.Listing.{words, mode_past, line, lines_from}

-- the text is the words of this step, after which the mode is that
pub record Says (m : Parameters) (mode4 : Bool) (text : List ℕ) (step : Step) (after : Bool) : Type 0 where
  pub listed : IsListable step
  pub told : text ≡ words m mode4 step
  pub mode : after ≡ mode_past m mode4 step

-- a number before words
abbrev pub numbered : ℕ → List ℕ → List ℕ
numbered n text = decimal n ++ (codes " " ++ text)

-- the row of the step's opcode, where there is one, has so many address bytes, or none
abbrev pub HasWidth : Parameters → Bool → Step → ℕ → Type 0
HasWidth m mode4 step width = (r : Row) → row_of m mode4 (opcode (step_clocks step)) ≡ Some r → (r.width ≡ width) ⊎ (r.width ≡ 0)

-- the text is the words of no step of such a width; of none at all
abbrev pub SaysNoneOf : Parameters → Bool → List ℕ → ℕ → Type 0
SaysNoneOf m mode4 text width = (x : Step) → IsListable x → HasWidth m mode4 x width → text ≡ words m mode4 x → ⊥

abbrev pub SaysNone : Parameters → Bool → List ℕ → Type 0
SaysNone m mode4 text = (x : Step) → IsListable x → text ≡ words m mode4 x → ⊥

-- the same of a line with its number, without its LF
pub record SaysLine (m : Parameters) (n : ℕ) (mode4 : Bool) (text : List ℕ) (read : Read) : Type 0 where
  pub listed : IsListable read.step
  pub told : text ≡ numbered n (words m mode4 read.step)
  pub mode : read.after ≡ mode_past m mode4 read.step

-- the line is that of no step
abbrev pub SaysNoLine : Parameters → ℕ → Bool → List ℕ → Type 0
SaysNoLine m n mode4 text = (x : Step) → IsListable x → text ≡ numbered n (words m mode4 x) → ⊥

-- the text doesn't begin with the line of a step
abbrev pub BeginsNone : Parameters → ℕ → Bool → List ℕ → Type 0
BeginsNone m n mode4 text = (x : Step) (more : List ℕ) → IsListable x → text ≡ line m n mode4 x ++ more → ⊥

-- the text begins with the lines of these steps, and the rest follows them
pub record AreRead (m : Parameters) (first : Bool) (text : List ℕ) (steps : List Step) (rest : List ℕ) : Type 0 where
  pub each : AllByRecursion IsListable steps
  pub whole : text ≡ lines_from m 0 first steps ++ rest
