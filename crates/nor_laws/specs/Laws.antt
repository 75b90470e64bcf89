-- Laws of the definitions: facts that would be false if one of them were wrong.
use Rattle.std.specs.Prelude.{◌≡◌, ◌≢◌, ◌⊎◌, ℕ, suc, Bool, true, false, ◌<◌, ◌≤◌, ◌+◌, ◌%◌, ◌^◌, List, [], ◌∷◌, ◌++◌, length, map, Option, Some, None, option_map, Ok, Err, slice_index, bit_and}
use Rattle.std.specs.List.{list_all, AllByRecursion}
use Rattle.nor_base.specs.declared.clock.Clock.{Clock}
use Rattle.nor_base.specs.declared.instruction.What.TheVariants as what
use Rattle.nor_base.specs.declared.step.Step.{Step}
use Rattle.nor_base.specs.declared.wrong.Wrong.TheVariants as wrong
use Rattle.nor_base.specs.Sample.{symbol, clock_at, sample, sample_at, sampled_count, is_symbol}
use Rattle.nor_base.specs.Step.{IsStep, step_clocks, expected}
use Rattle.nor_base.specs.Script.{IsScript, script_text, step_lines}
use Rattle.nor_base.specs.Device.{Ahead, Gives, first_of}
use Rattle.nor_base.specs.Parameters.{Parameters, erase_kind, block_size}
use Rattle.nor_base.specs.Instructions.{Row, IsRow, row_of}
use Rattle.nor_base.specs.Accepted.{IsAccepted}
use Rattle.nor_base.specs.Decoding.{Instruction, decode}
use Rattle.nor_base.specs.Blocks.{Block, AreDisjoint, LiesIn, LiesInRegion, IsLegalBlock}
use Rattle.nor_base.specs.Chip.{Setting, Chip, IsWhole}
use Rattle.nor_base.specs.Array.{IsOutside, are_bytes}
use Rattle.nor_base.specs.Effect.{effect, effect_of, is_broken, is_program, place, page_start, may_program, wrong_of}
use Rattle.nor_base.specs.Run.{polled, polled_trail, run, played, trail}
use Rattle.nor_base.specs.Events.{events}
use Rattle.nor_base.specs.Target.{target}

-- a list of steps has one text
abbrev pub OneText : Type 0
OneText = (steps : List Step) (t u : List ℕ) → IsScript t steps → IsScript u steps → t ≡ u

-- a text has one list of steps
abbrev pub OneList : Type 0
OneList = (text : List ℕ) (a b : List Step) → IsScript text a → IsScript text b → a ≡ b

-- two script texts, whatever follows them, are alike only where the steps are
abbrev pub TextsApart : Type 0
TextsApart = (a b : List Step) (x y : List ℕ) → AllByRecursion IsStep a → AllByRecursion IsStep b
    → script_text a ++ x ≡ script_text b ++ y → (a ≡ b) × (x ≡ y)

-- no script text is a proper prefix of another
abbrev pub NoProperPrefix : Type 0
NoProperPrefix = (a b : List Step) (t u rest : List ℕ) → IsScript t a → IsScript u b → u ≡ t ++ rest → rest ≡ []

-- the clocks of a step are symbols, and what it expects are bytes
pub record IsSpelled (step : Step) : Type 0 where
  pub symbols : list_all is_symbol (step_clocks step) ≡ true
  pub bytes : are_bytes (expected step) ≡ true

-- two lists of such steps have the same lines only where they are the same
abbrev pub LinesApart : Type 0
LinesApart = (a b : List Step) → AllByRecursion IsSpelled a → AllByRecursion IsSpelled b → step_lines a ≡ step_lines b → a ≡ b

-- an opcode has at most one row
abbrev pub OneRow : Type 0
OneRow = (m : Parameters) (mode4 : Bool) (opcode : ℕ) (r s : Row) → IsAccepted m → IsRow m mode4 opcode r → IsRow m mode4 opcode s → r ≡ s

-- the look-up finds a row only where it is there, and each that is there
abbrev pub FindsRow : Type 0
FindsRow = (m : Parameters) (mode4 : Bool) (opcode : ℕ) (r : Row) → row_of m mode4 opcode ≡ Some r → IsRow m mode4 opcode r

abbrev pub RowFound : Type 0
RowFound = (m : Parameters) (mode4 : Bool) (opcode : ℕ) (r : Row) → IsAccepted m → IsRow m mode4 opcode r → row_of m mode4 opcode ≡ Some r

-- a legal block lies in one region that allows its kind, and on the chip
abbrev pub LegalInRegion : Type 0
LegalInRegion = (m : Parameters) (b : Block) → IsLegalBlock m b → LiesInRegion m b

abbrev pub LegalOnChip : Type 0
LegalOnChip = (m : Parameters) (b : Block) → IsAccepted m → IsLegalBlock m b → b.start + b.size ≤ m.size

-- each aligned block of a present kind that lies in such a region is legal
abbrev pub RegionLegal : Type 0
RegionLegal = (m : Parameters) (b : Block) → option_map (λ erase. erase.size) (erase_kind m b.kind) ≡ Some b.size → b.start % b.size ≡ 0
    → LiesInRegion m b → IsLegalBlock m b

-- two legal blocks are disjoint, or one holds the other
abbrev pub BlocksNest : Type 0
BlocksNest = (m : Parameters) (b c : Block) → IsAccepted m → IsLegalBlock m b → IsLegalBlock m c
    → AreDisjoint b c ⊎ (LiesIn b c ⊎ LiesIn c b)

-- every effect keeps the size of the array
abbrev pub KeepsSize : Type 0
KeepsSize = (s : Setting) (c d : Chip) (clocks bytes : List ℕ) → effect s c clocks ≡ Ok (d, bytes) → length d.array ≡ length c.array

-- on an array of the chip's size a transaction gives as many bytes as its clocks sample
abbrev pub GivesSampled : Type 0
GivesSampled = (s : Setting) (c d : Chip) (clocks bytes : List ℕ) → IsWhole s c → effect s c clocks ≡ Ok (d, bytes)
    → length bytes ≡ sampled_count clocks

-- an instruction asks for as many bytes as its clocks sample
abbrev pub AsksSampled : Type 0
AsksSampled = (m : Parameters) (mode4 : Bool) (clocks : List ℕ) (i : Instruction) → decode m mode4 clocks ≡ Some i → is_broken i.what ≡ false
    → i.asked ≡ sampled_count clocks

-- a poll ends idle and changes nothing else
abbrev pub PollEnds : Type 0
PollEnds = (s : Setting) (c : Chip) → polled s (suc c.left) c ≡ Ok (record c { left = 0 })

-- with n status reads left it makes n + 1
abbrev pub PollCount : Type 0
PollCount = (s : Setting) (c : Chip) → length (polled_trail s (suc c.left) c) ≡ c.left + 1

-- no fewer are enough
abbrev pub PollNeedsAll : Type 0
PollNeedsAll = (s : Setting) (c : Chip) (turns : ℕ) → turns ≤ c.left → polled s turns c ≡ Err wrong.PollNever

-- two arrays of one length that hold the same from one address up to another
pub record SameWithin (low high : ℕ) (xs ys : List ℕ) : Type 0 where
  pub length : length xs ≡ length ys
  pub bytes : (x : ℕ) → low ≤ x → x < high → slice_index xs x ≡ slice_index ys x

-- a program changes no byte outside its page
abbrev pub ProgramKeepsOthers : Type 0
ProgramKeepsOthers = (s : Setting) (c d : Chip) (i : Instruction) (bytes : List ℕ) (x : ℕ) → 0 < s.page → is_program i.what ≡ true
    → effect_of s c i ≡ Ok (d, bytes) → IsOutside (page_start s.page i.address) (page_start s.page i.address + s.page) x
    → slice_index d.array x ≡ slice_index c.array x

-- byte j is the last of a program that goes to x
pub record IsLastFor (page address : ℕ) (bytes : List ℕ) (x j : ℕ) : Type 0 where
  pub sent : j < length bytes
  pub here : place page address j ≡ x
  pub last : (k : ℕ) → j < k → k < length bytes → place page address k ≢ x

-- where a byte goes, the array then holds what it had AND the byte; and the byte might be programmed there
abbrev pub ProgramPutsByte : Type 0
ProgramPutsByte = (s : Setting) (c d : Chip) (i : Instruction) (bytes : List ℕ) (x j : ℕ) → is_program i.what ≡ true
    → effect_of s c i ≡ Ok (d, bytes) → x < length c.array → IsLastFor s.page i.address i.sent x j
    → (slice_index d.array x ≡ bit_and (slice_index c.array x) (slice_index i.sent j))
    × (may_program s.meaning (slice_index c.array x) (slice_index i.sent j) ≡ true)

-- a byte of the program goes where it may not be programmed
pub record HasBar (s : Setting) (c : Chip) (i : Instruction) : Type 0 where
  pub at : ℕ
  pub byte : ℕ
  pub inside : at < length c.array
  pub goes : IsLastFor s.page i.address i.sent at byte
  pub bars : may_program s.meaning (slice_index c.array at) (slice_index i.sent byte) ≡ false

-- Raised is said, without the profile of erased bytes, for a byte that has a 1 where the array has a 0
abbrev pub RaisedForByte : Type 0
RaisedForByte = (s : Setting) (c : Chip) (i : Instruction) → effect_of s c i ≡ Err wrong.Raised → HasBar s c i × (s.meaning.erased_only ≡ false)

-- NotErased is said, with the profile, for a byte that goes where the array isn't FFh
abbrev pub NotErasedForByte : Type 0
NotErasedForByte = (s : Setting) (c : Chip) (i : Instruction) → effect_of s c i ≡ Err wrong.NotErased → HasBar s c i × (s.meaning.erased_only ≡ true)

-- and isn't refused for bytes elsewhere
abbrev pub ProgramJudgedByPage : Type 0
ProgramJudgedByPage = (s : Setting) (c : Chip) (array : List ℕ) (i : Instruction) → 0 < s.page → is_program i.what ≡ true
    → SameWithin (page_start s.page i.address) (page_start s.page i.address + s.page) c.array array
    → wrong_of (effect_of s (record c { array = array }) i) ≡ wrong_of (effect_of s c i)

-- an erase leaves FFh over its block
abbrev pub EraseFills : Type 0
EraseFills = (s : Setting) (c d : Chip) (i : Instruction) (kind : ℕ) (bytes : List ℕ) (x : ℕ) → i.what ≡ what.Erase kind
    → effect_of s c i ≡ Ok (d, bytes) → x < length c.array → i.address ≤ x → x < i.address + block_size s.meaning kind
    → slice_index d.array x ≡ 255

-- an erase changes no byte outside its block
abbrev pub EraseKeepsOthers : Type 0
EraseKeepsOthers = (s : Setting) (c d : Chip) (i : Instruction) (kind : ℕ) (bytes : List ℕ) (x : ℕ) → i.what ≡ what.Erase kind
    → effect_of s c i ≡ Ok (d, bytes) → IsOutside i.address (i.address + block_size s.meaning kind) x
    → slice_index d.array x ≡ slice_index c.array x

-- and isn't refused for any byte
abbrev pub EraseNeverJudged : Type 0
EraseNeverJudged = (s : Setting) (c : Chip) (array : List ℕ) (i : Instruction) (kind : ℕ) → i.what ≡ what.Erase kind
    → wrong_of (effect_of s (record c { array = array }) i) ≡ wrong_of (effect_of s c i)

-- what is ahead of a reader is what it gives first, and then what is ahead after that
abbrev pub FirstInParts : Type 0
FirstInParts = (before after : Ahead) (bytes content : List ℕ) (n : ℕ) → Gives before bytes after → first_of (length bytes + n) before ≡ Some content
    → (rest : List ℕ) × (first_of n after ≡ Some rest) × (content ≡ bytes ++ rest)

-- what is given in two parts is given
abbrev pub GivesInParts : Type 0
GivesInParts = (before between after : Ahead) (xs ys : List ℕ) → Gives before xs between → Gives between ys after → Gives before (xs ++ ys) after

-- a clock is found by its symbol, the lanes do at a symbol what they do at its clock, and no two clocks have the same lanes
abbrev pub SymbolsFound : Type 0
SymbolsFound = (clock : Clock) → clock_at (symbol clock) ≡ Some clock

abbrev pub SamplesByClock : Type 0
SamplesByClock = (byte : ℕ) → sample_at byte ≡ option_map sample (clock_at byte)

abbrev pub SamplesApart : Type 0
SamplesApart = (c d : Clock) → sample c ≡ sample d → c ≡ d

-- the last of some chips, or the one before them
abbrev pub last_of : Chip → List Chip → Chip
last_of c [] = c
last_of c (d ∷ more) = last_of d more

-- a run ends with the chip after its last transaction
abbrev pub RunEndsTrail : Type 0
RunEndsTrail = (s : Setting) (c d : Chip) (steps : List Step) → run s c steps ≡ Ok d → last_of c (trail s c steps) ≡ d

-- fewer status reads than a limit are left busy, and will be
pub record IsBelow (limit : ℕ) (c : Chip) : Type 0 where
  pub left : c.left < limit
  pub to_come : (n : ℕ) → slice_index c.to_come n < limit

-- a run with a bound on polls above what is left busy is the run
abbrev pub BoundedIsRun : Type 0
BoundedIsRun = (s : Setting) (limit : ℕ) (c : Chip) (steps : List Step) → IsBelow limit c → played s limit c steps ≡ run s c steps

-- the chips of a run's events are its trail
abbrev pub EventsAreTrail : Type 0
EventsAreTrail = (s : Setting) (c : Chip) (steps : List Step) → map (λ e. e.chip) (events s c steps) ≡ trail s c steps

-- what isn't chosen, or isn't given, or lies past 2^32 stays as it was
abbrev pub TargetKeeps : Type 0
TargetKeeps = (image : ℕ → Option ℕ) (base : ℕ) (is_chosen : ℕ → Bool) (content : List ℕ) (a : ℕ)
    → (is_chosen a ≡ false) ⊎ ((image (base + a) ≡ None) ⊎ (2 ^ 32 ≤ base + a))
    → slice_index (target image base is_chosen content) a ≡ slice_index content a

-- what is chosen and given becomes the image's byte
abbrev pub TargetGives : Type 0
TargetGives = (image : ℕ → Option ℕ) (base : ℕ) (is_chosen : ℕ → Bool) (content : List ℕ) (a byte : ℕ) → a < length content
    → is_chosen a ≡ true → base + a < 2 ^ 32 → image (base + a) ≡ Some byte → slice_index (target image base is_chosen content) a ≡ byte
