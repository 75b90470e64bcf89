-- A script that is read out of a device as it comes (this project's).
use Rattle.std.specs.Prelude.{◌≡◌, ℕ, ◌+◌, ◌≤◌, ◌⊎◌, false, List, [], ◌∷◌, ◌++◌, length, Result, Ok, Err, Bool, true, Some, ⊤}
use Rattle.std.specs.List.{AllByRecursion, list_any}
use Rattle.nor_base.specs.declared.step.Step.{Step}
use Rattle.nor_base.specs.Device.{Ahead, Unknown, Finite, Endless, Gives, IsAtEnd, one_more}
use Rattle.nor_base.specs.Script.{closed, header, end_line, step_line, step_lines, IsScript}
use Rattle.nor_base.specs.Step.{IsStep}
use Rattle.nor_script.specs.declared.fault.ScriptFault.{ScriptFault}
use Rattle.nor_script.specs.declared.fault.ScriptFault.TheVariants.{Header, BadLine, BadSymbol, BadCount, NoEnd, AfterEnd, Memory}
use Rattle.nor_script.specs.declared.fault.ReadFault.{ReadFault}
use Rattle.nor_script.specs.declared.fault.ReadFault.TheVariants.{Script, Device}
use Rattle.nor_script.specs.Line.{line_fault}
use Rattle.nor_script.specs.Faults.{is_line_feed, BeginsWith, Refuses}

-- a reading at one moment: what its device has ahead, and the bytes that came and are not read yet
pub record Reading : Type 0 where
  pub ahead : Ahead
  pub held : List ℕ

abbrev pub reading : Ahead → List ℕ → Reading
reading ahead held = record { ahead = ahead; held = held }

-- from one moment to another just these bytes were read
pub record Reads (before after : Reading) (bytes : List ℕ) : Type 0 where
  pub pulled : List ℕ
  pub given : Gives before.ahead pulled after.ahead
  pub whole : before.held ++ pulled ≡ bytes ++ after.held

-- nothing is left
pub record IsOver (now : Reading) : Type 0 where
  pub none : now.held ≡ []
  pub over : IsAtEnd now.ahead

-- the line that comes next after the header and so many steps is closed and is at fault
pub record HasBadLineNext (now : Reading) (steps : ℕ) (fault : ScriptFault) : Type 0 where
  pub line : List ℕ
  pub more : List ℕ
  pub first : BeginsWith now.held line more
  pub here : line_fault steps line ≡ Some fault

-- no line is closed in all that is left
pub record LacksLine (now : Reading) : Type 0 where
  pub unclosed : list_any is_line_feed now.held ≡ false
  pub over : IsAtEnd now.ahead

-- what is left doesn't begin with the header
pub record LacksHeader (now : Reading) : Type 0 where
  pub none : (rest : List ℕ) → now.held ≡ header ++ rest → ⊥
  pub enough : (length header ≤ length now.held) ⊎ IsAtEnd now.ahead

-- the end line of so many steps comes next, and something behind it
pub record GoesOnNext (now : Reading) (steps : ℕ) : Type 0 where
  pub byte : ℕ
  pub more : List ℕ
  pub whole : now.held ≡ end_line steps ++ byte ∷ more

-- the first fault of what is left behind the header and the lines of so many steps. Where memory was refused nothing is said
abbrev pub IsNextFault : Reading → ℕ → ScriptFault → Type 0
IsNextFault now steps (Header n) = ⊥
IsNextFault now steps (BadLine n) = HasBadLineNext now steps (BadLine n)
IsNextFault now steps (BadSymbol n) = HasBadLineNext now steps (BadSymbol n)
IsNextFault now steps (BadCount n) = HasBadLineNext now steps (BadCount n)
IsNextFault now steps (NoEnd n) = LacksLine now × (n ≡ steps + 2)
IsNextFault now steps (AfterEnd n) = GoesOnNext now steps × (n ≡ steps + 3)
IsNextFault now steps Memory = ⊤

-- a fault that the text has no part in: the device failed, or memory was refused
abbrev pub IsOutside : ReadFault → Type 0
IsOutside (Script fault) = fault ≡ Memory
IsOutside (Device failed) = ⊤

-- the count of the device's failures rises by one exactly where its failure is answered
abbrev pub CountsRead : {T : Type 0} → ℕ → ℕ → Result T ReadFault → Type 0
CountsRead before after (Ok x) = after ≡ before
CountsRead before after (Err (Script fault)) = after ≡ before
CountsRead before after (Err (Device failed)) = after ≡ one_more before

-- what a reader of steps goes on by. true: the next line was read, which is that of the step. false: the end line of so many
-- steps was read, and nothing is left. A fault: nothing was read, and what is left has that fault first; where the device
-- failed, nothing was read
abbrev pub Advances : Reading → Reading → ℕ → Step → Result Bool ReadFault → Type 0
Advances before after steps step (Ok true) = Reads before after (closed (step_line step)) × IsStep step
Advances before after steps step (Ok false) = Reads before after (end_line steps) × IsOver after
Advances before after steps step (Err (Script fault)) = Reads before after [] × IsNextFault after steps fault
Advances before after steps step (Err (Device failed)) = Reads before after []

-- a step that was read is counted
abbrev pub CountsStep : ℕ → ℕ → Result Bool ReadFault → Type 0
CountsStep before after (Ok true) = after ≡ before + 1
CountsStep before after (Ok false) = after ≡ before
CountsStep before after (Err fault) = after ≡ before

-- the fault of a text that isn't begun
abbrev pub IsFirstFault : Reading → ReadFault → Type 0
IsFirstFault now (Script (Header n)) = (n ≡ 1) × LacksHeader now
IsFirstFault now (Script (BadLine n)) = ⊥
IsFirstFault now (Script (BadSymbol n)) = ⊥
IsFirstFault now (Script (BadCount n)) = ⊥
IsFirstFault now (Script (NoEnd n)) = ⊥
IsFirstFault now (Script (AfterEnd n)) = ⊥
IsFirstFault now (Script Memory) = ⊤
IsFirstFault now (Device failed) = ⊤

-- a reader of steps: the bytes that came and are not read yet, the step read last, and how many were read
pub record Steps : Type 0 where
  pub held : List ℕ
  pub step : Step
  pub steps : ℕ

-- what beginning to read does, out of a device that had the one ahead and has the other now. The header was read; or the text
-- lacks it; or the device failed, or memory was refused
abbrev pub Begins : Ahead → Ahead → Result Steps ReadFault → Type 0
Begins before after (Ok steps) = Reads (reading before []) (reading after steps.held) header × (steps.steps ≡ 0)
Begins before after (Err fault) = (held : List ℕ) × Reads (reading before []) (reading after held) [] × IsFirstFault (reading after held) fault

-- the header and the lines of these steps were read, and the steps are such as a script may have
pub record HasRead (first now : Reading) (above : List Step) : Type 0 where
  pub each : AllByRecursion IsStep above
  pub reads : Reads first now (header ++ step_lines above)

-- what is said of all bytes that a device has ahead, where it tells them
abbrev pub OfText : Ahead → (List ℕ → Type 0) → Type 0
OfText Unknown P = ⊤
OfText (Finite text) P = P text
OfText (Endless byte_at) P = ⊤

-- the text is that of so many steps
pub record IsScriptOf (text : List ℕ) (number : ℕ) : Type 0 where
  pub steps : List Step
  pub is_script : IsScript text steps
  pub count : length steps ≡ number

-- whether all bytes ahead are a script, with the number of its steps; or its first fault
abbrev pub TellsScript : Ahead → Ahead → Result ℕ ReadFault → Type 0
TellsScript before after (Ok number) = OfText before (λ text. IsScriptOf text number) × IsAtEnd after
TellsScript before after (Err (Script fault)) = OfText before (λ text. Refuses text fault)
TellsScript before after (Err (Device failed)) = ⊤

-- a text that a device had ahead: all of it, where it tells it and it ends; of one that never ends what it gave; of one that tells
-- nothing, some text
abbrev pub IsTextOf : Ahead → Ahead → List ℕ → Type 0
IsTextOf Unknown after text = ⊤
IsTextOf (Finite bytes) after text = text ≡ bytes
IsTextOf (Endless byte_at) after text = Gives (Endless byte_at) text after

-- this is so of a text that a device had ahead
abbrev pub HadText : Ahead → Ahead → (List ℕ → Type 0) → Type 0
HadText before after Is = (text : List ℕ) × IsTextOf before after text × Is text

-- a text is the script of some steps
pub record IsSpelled (text : List ℕ) : Type 0 where
  pub steps : List Step
  pub script : IsScript text steps

-- why a reading doesn't go through: the first fault of the text, if memory wasn't refused; or the device failed (its count tells it)
abbrev pub StopsReader : Ahead → Ahead → ReadFault → Type 0
StopsReader before after (Script why) = HadText before after (λ text. Refuses text why)
StopsReader before after (Device failed) = ⊤
