-- A reader of lines that takes its bytes from a device, a part at a time (this project's).
use Rattle.std.specs.Prelude.{◌≡◌, ◌<◌, ◌≤◌, ℕ, ◌+◌, false, List, [], ◌∷◌, ◌++◌, length, take, drop, slice_range, Result, Ok, Err, Bool, true}
use Rattle.std.specs.List.{list_any}
use Rattle.nor_base.specs.Device.{Gives, IsAtEnd}
use Rattle.nor_base.specs.declared.device.Failed.{Failed}
use Rattle.nor_base.specs.Script.{closed, header}
use Rattle.nor_script.specs.declared.fault.ReadFault.{ReadFault}
use Rattle.nor_script.specs.declared.fault.ReadFault.TheVariants.{Script, Device}
use Rattle.nor_script.specs.declared.fault.ScriptFault.TheVariants.{AfterEnd, Memory}
use Rattle.nor_script.specs.Faults.{is_line_feed, BeginsWith}
use Rattle.nor_script.specs.declared.line.Kind.{Kind}
use Rattle.nor_script.specs.Line.{SpellsStep}
use Rattle.nor_script.specs.LineParts.{step_by}
use Rattle.nor_script.specs.Stream.{Reading, Reads, LacksLine, LacksHeader, IsOutside, IsOver}

-- what a buffer of lines holds: the bytes that came and are not read yet, and the line found last, without its LF
pub record Lines : Type 0 where
  pub held : List ℕ
  pub line : List ℕ
  -- how many more bytes it has room for
  pub room : ℕ

-- the line found is the first of the bytes held
pub record IsFirstLine (lines : Lines) : Type 0 where
  pub rest : List ℕ
  pub first : BeginsWith lines.held lines.line rest

-- true: nothing was read, and the next line is found. false: no line is closed in all that is left
abbrev pub FindsLine : Reading → Reading → Lines → Result Bool ReadFault → Type 0
FindsLine before after lines (Ok true) = Reads before after [] × IsFirstLine lines
FindsLine before after lines (Ok false) = Reads before after [] × LacksLine after
FindsLine before after lines (Err fault) = Reads before after [] × IsOutside fault

-- true: the next line is found among the bytes held. false: it isn't, and nothing changed
abbrev pub Marks : Lines → Lines → Bool → Type 0
Marks before after true = (after.held ≡ before.held) × IsFirstLine after
Marks before after false = (after ≡ before) × (list_any is_line_feed after.held ≡ false)

-- so many bytes came, none at the end alone
pub record Comes (before after : Reading) (n : ℕ) : Type 0 where
  pub pulled : List ℕ
  pub given : Gives before.ahead pulled after.ahead
  pub whole : after.held ≡ before.held ++ pulled
  pub number : length pulled ≡ n
  pub over : n ≡ 0 → IsAtEnd after.ahead

abbrev pub Pulls : Reading → Reading → Result ℕ ReadFault → Type 0
Pulls before after (Ok n) = Comes before after n
Pulls before after (Err fault) = Reads before after [] × IsOutside fault

-- so many bytes came into a buffer, here what is held, behind the first ones, which stay; none at the end, or where there was no room
pub record FillsBy (before after : Reading) (upto n : ℕ) : Type 0 where
  pub pulled : List ℕ
  pub number : length pulled ≡ n
  pub within : upto + n ≤ length after.held
  pub whole : take (upto + n) after.held ≡ take upto before.held ++ pulled
  pub given : Gives before.ahead pulled after.ahead
  pub over : n ≡ 0 → upto < length before.held → IsAtEnd after.ahead

abbrev pub FillsPast : Reading → Reading → ℕ → Result ℕ Failed → Type 0
FillsPast before after upto (Ok n) = FillsBy before after upto n
FillsPast before after upto (Err failed) = Gives before.ahead [] after.ahead × (take upto after.held ≡ take upto before.held)

abbrev pub ReadsHeader : Reading → Reading → Result Bool ReadFault → Type 0
ReadsHeader before after (Ok true) = Reads before after header
ReadsHeader before after (Ok false) = Reads before after [] × LacksHeader after
ReadsHeader before after (Err fault) = Reads before after [] × IsOutside fault

abbrev pub SkipsHeader : List ℕ → List ℕ → Bool → Type 0
SkipsHeader before after true = before ≡ header ++ after
SkipsHeader before after false = (after ≡ before) × ((rest : List ℕ) → before ≡ header ++ rest → ⊥)

-- some byte stands behind a line
pub record GoesPast (now : Reading) (line : List ℕ) : Type 0 where
  pub byte : ℕ
  pub more : List ℕ
  pub whole : now.held ≡ closed line ++ byte ∷ more

-- whether something stands behind a line that is the first of the bytes held
abbrev pub LooksBehind : Reading → Reading → List ℕ → Result Bool ReadFault → Type 0
LooksBehind before after line (Ok true) = Reads before after [] × GoesPast after line
LooksBehind before after line (Ok false) = Reads before after [] × (after.held ≡ closed line) × IsAtEnd after.ahead
LooksBehind before after line (Err fault) = Reads before after [] × IsOutside fault

-- false: a line was read, and nothing is left. AfterEnd: nothing was read, and something stands behind the line
abbrev pub ReadsEnd : Reading → Reading → List ℕ → ℕ → Result Bool ReadFault → Type 0
ReadsEnd before after line steps (Ok more) = (more ≡ false) × Reads before after (closed line) × IsOver after
ReadsEnd before after line steps (Err (Script Memory)) = Reads before after []
ReadsEnd before after line steps (Err (Script fault)) = Reads before after [] × GoesPast after line × (fault ≡ AfterEnd (steps + 3))
ReadsEnd before after line steps (Err (Device failed)) = Reads before after []

-- the line found was read, which is that of the step of this kind; the step's clocks stand in it from its third byte up to here
pub record ReadsStep (before after : Lines) (kind : Kind) (upto : ℕ) (expect : List ℕ) : Type 0 where
  pub held : after.held ≡ drop (length before.line + 1) before.held
  pub same : after.line ≡ before.line
  pub from : 2 ≤ upto
  pub within : upto ≤ length before.line
  pub spells : SpellsStep before.line (step_by kind (slice_range before.line 2 upto) expect)
