-- Why a text is no script: its first fault, line by line (this project's format).
use Rattle.std.specs.Prelude.{◌≡◌, ℕ, Bool, false, ◌+◌, ◌==◌, ⊤, List, [], ◌∷◌, ◌++◌, length, Some}
use Rattle.std.specs.List.{AllByRecursion, list_any}
use Rattle.nor_base.specs.declared.step.Step.{Step}
use Rattle.nor_base.specs.Step.{IsStep}
use Rattle.nor_base.specs.Script.{closed, header, step_lines, script_text}
use Rattle.nor_script.specs.declared.fault.ScriptFault.{ScriptFault}
use Rattle.nor_script.specs.declared.fault.ScriptFault.TheVariants.{Header, BadLine, BadSymbol, BadCount, NoEnd, AfterEnd, Memory}
use Rattle.nor_script.specs.Line.{line_fault}

abbrev pub is_line_feed : ℕ → Bool
is_line_feed byte = byte == 0x0A

-- a text begins with this line, and LF closes it
pub record BeginsWith (text line rest : List ℕ) : Type 0 where
  pub whole : text ≡ closed line ++ rest
  pub one : list_any is_line_feed line ≡ false

-- of a text the header and the lines of these steps are right, and the rest follows them
pub record IsRight (text : List ℕ) (above : List Step) (rest : List ℕ) : Type 0 where
  pub each : AllByRecursion IsStep above
  pub whole : text ≡ header ++ (step_lines above ++ rest)

-- the line after the header and the steps above is closed and is at fault
pub record HasBadLine (text : List ℕ) (fault : ScriptFault) : Type 0 where
  pub above : List Step
  pub rest : List ℕ
  pub line : List ℕ
  pub more : List ℕ
  pub right : IsRight text above rest
  pub first : BeginsWith rest line more
  pub here : line_fault (length above) line ≡ Some fault

-- the line after the header and the steps above, the n-th, is missing or not closed
pub record LacksEnd (text : List ℕ) (n : ℕ) : Type 0 where
  pub above : List Step
  pub rest : List ℕ
  pub right : IsRight text above rest
  pub unclosed : list_any is_line_feed rest ≡ false
  pub number : n ≡ length above + 2

-- something follows the text of some steps, on the n-th line
pub record GoesOn (text : List ℕ) (n : ℕ) : Type 0 where
  pub steps : List Step
  pub byte : ℕ
  pub more : List ℕ
  pub each : AllByRecursion IsStep steps
  pub whole : text ≡ script_text steps ++ byte ∷ more
  pub number : n ≡ length steps + 3

-- the first fault of a text
abbrev pub IsFault : List ℕ → ScriptFault → Type 0
IsFault text (Header n) = (n ≡ 1) × ((rest : List ℕ) → text ≡ header ++ rest → ⊥)
IsFault text (BadLine n) = HasBadLine text (BadLine n)
IsFault text (BadSymbol n) = HasBadLine text (BadSymbol n)
IsFault text (BadCount n) = HasBadLine text (BadCount n)
IsFault text (NoEnd n) = LacksEnd text n
IsFault text (AfterEnd n) = GoesOn text n
IsFault text Memory = ⊥

-- what a refusal says of the text: its first fault, or nothing where memory was refused
abbrev pub Refuses : List ℕ → ScriptFault → Type 0
Refuses text Memory = ⊤
Refuses text fault = IsFault text fault

-- a text begins with the header and the lines of these steps
pub record BeginsRight (text : List ℕ) (steps : List Step) : Type 0 where
  pub rest : List ℕ
  pub right : IsRight text steps rest

-- the steps whose lines stand above the line of a text's first fault: none above the first line, and between what follows an end
-- line and the steps stands that line. Where memory was refused nothing is said
abbrev pub AreAbove : List ℕ → List Step → ScriptFault → Type 0
AreAbove text steps (Header n) = steps ≡ []
AreAbove text steps (BadLine n) = BeginsRight text steps × (n ≡ length steps + 2)
AreAbove text steps (BadSymbol n) = BeginsRight text steps × (n ≡ length steps + 2)
AreAbove text steps (BadCount n) = BeginsRight text steps × (n ≡ length steps + 2)
AreAbove text steps (NoEnd n) = BeginsRight text steps × (n ≡ length steps + 2)
AreAbove text steps (AfterEnd n) = BeginsRight text steps × (n ≡ length steps + 3)
AreAbove text steps Memory = ⊤
