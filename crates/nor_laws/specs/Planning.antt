-- Values of the planned work, worked out by hand: on a chip of 16 bytes in pages of 2, and on one of 32 MiB.
use Rattle.std.specs.Prelude.{◌≡◌, ℕ, Bool, true, false, List, [], ◌∷◌, ◌++◌, replicate, map, Option, Some, None}
use Rattle.nor_base.specs.declared.instruction.What.{What}
use Rattle.nor_base.specs.declared.instruction.What.TheVariants as what
use Rattle.nor_base.specs.declared.meaning.Start.{Start}
use Rattle.nor_base.specs.declared.meaning.Strategy.TheVariants.{S1, S2, S3, S4, S5}
use Rattle.nor_base.specs.declared.meaning.Switch.{Switch}
use Rattle.nor_base.specs.declared.meaning.Switch.TheVariants.{Absent, Plain, Latched}
use Rattle.nor_base.specs.declared.meaning.Region.{Region}
use Rattle.nor_base.specs.Parameters.{Parameters}
use Rattle.nor_base.specs.Blocks.{Block}
use Rattle.nor_base.specs.Strategies.{strategy, reaches}
use Rattle.nor_base.specs.Need.{is_at_fault, is_beyond}
use Rattle.nor_base.specs.Programs.{Program}
use Rattle.nor_base.specs.Units.{WorkUnit, units}
use Rattle.nor_base.specs.Spelling.{Instr}
use Rattle.nor_base.specs.Planned.{IsInTheMaking}
use Rattle.nor_base.specs.Operations.{Op, erases, writes, reads, bare, enable, poll, disable, unit_ops, lowered}
use Rattle.nor_laws.specs.Worked.{tiny}

-- 16 bytes, pages of 2, blocks of 4 bytes, and two kinds of 8 bytes
abbrev pub little : List Region → Parameters
little regions = record (tiny Plain) {
  size = 16;
  page = 2;
  erases = Some (record { size = 4; op = 0x20; op4 = Some 0x21 }) ∷ Some (record { size = 8; op = 0x52; op4 = None }) ∷ Some (record { size = 8; op = 0xD8; op4 = Some 0xDC }) ∷ None ∷ [];
  regions = regions;
}

abbrev pub whole : List Region
whole = record { size = 16; kinds = 7 } ∷ []

-- a border after the first 4 bytes
abbrev pub halves : List Region
halves = record { size = 4; kinds = 7 } ∷ record { size = 12; kinds = 7 } ∷ []

abbrev pub ff : ℕ → List ℕ
ff n = replicate n 255

abbrev pub block : ℕ → ℕ → ℕ → Option Block
block start size kind = Some (record { start = start; size = size; kind = kind })

abbrev pub program : ℕ → List ℕ → Program
program at bytes = record { at = at; bytes = bytes }

-- 01h over 00h at 1: the block of 4 is erased, and the 12h at 3 that it takes along is programmed again
abbrev pub EraseRestores : Type 0
EraseRestores = units (little whole) S2 (255 ∷ 0 ∷ 255 ∷ 0x12 ∷ ff 12) (255 ∷ 1 ∷ 255 ∷ 0x12 ∷ ff 12)
    ≡ record { erase = block 0 4 1; start = 0; size = 4; programs = program 1 (1 ∷ []) ∷ program 3 (0x12 ∷ []) ∷ [] } ∷ []

-- bits that only fall: the page alone, from its first byte that differs to its last
abbrev pub PageOutside : Type 0
PageOutside = units (little whole) S2 (ff 16) (ff 6 ++ (0x0F ∷ 0x0F ∷ ff 8))
    ≡ record { erase = None; start = 6; size = 2; programs = program 6 (0x0F ∷ 0x0F ∷ []) ∷ [] } ∷ []

-- both halves of a block of 8 are needed: one erase, by the lower of two kinds of that size
abbrev pub LowerOfTwoKinds : Type 0
LowerOfTwoKinds = units (little whole) S2 (0 ∷ (ff 3 ++ (0 ∷ ff 11))) (ff 16) ≡ record { erase = block 0 8 2; start = 0; size = 8; programs = [] } ∷ []

-- over a border no block lies
abbrev pub BorderParts : Type 0
BorderParts = units (little halves) S2 (0 ∷ (ff 3 ++ (0 ∷ ff 11))) (ff 16)
    ≡ record { erase = block 0 4 1; start = 0; size = 4; programs = [] } ∷ record { erase = block 4 4 1; start = 4; size = 4; programs = [] } ∷ []

-- two blocks to be erased one after the other, and what of their making is one unit in the making: the first erased, and no
-- more; not both erased before either is programmed, nor the second made before the first
abbrev pub two_have : List ℕ
two_have = 0 ∷ (ff 3 ++ (0 ∷ ff 11))

abbrev pub two_want : List ℕ
two_want = 1 ∷ (ff 3 ++ (1 ∷ ff 11))

abbrev pub two_units : List WorkUnit
two_units =
    record { erase = block 0 4 1; start = 0; size = 4; programs = program 0 (1 ∷ []) ∷ [] }
    ∷ record { erase = block 4 4 1; start = 4; size = 4; programs = program 4 (1 ∷ []) ∷ [] } ∷ []

abbrev pub TwoErased : Type 0
TwoErased = units (little halves) S2 two_have two_want ≡ two_units

abbrev pub OneInTheMaking : Type 0
OneInTheMaking = IsInTheMaking two_units two_have two_want (ff 4 ++ (0 ∷ ff 11))

abbrev pub BothErasedFirst : Type 0
BothErasedFirst = IsInTheMaking two_units two_have two_want (ff 16) → ⊥

abbrev pub SecondMadeFirst : Type 0
SecondMadeFirst = IsInTheMaking two_units two_have two_want (0 ∷ (ff 3 ++ (1 ∷ ff 11))) → ⊥

-- a page is programmed at once, from its first byte that differs to its last, over one that stays
abbrev pub SpansPage : Type 0
SpansPage = units (record (little whole) { page = 4 }) S2 (ff 16) (0x0F ∷ 255 ∷ 0x0F ∷ ff 13)
    ≡ record { erase = None; start = 0; size = 4; programs = program 0 (0x0F ∷ 255 ∷ 0x0F ∷ []) ∷ [] } ∷ []

-- the operations of the unit that restores: its erase, its programs, and where it is verified its block page by page
abbrev pub restoring : WorkUnit
restoring = record { erase = block 0 4 1; start = 0; size = 4; programs = program 1 (1 ∷ []) ∷ program 3 (0x12 ∷ []) ∷ [] }

abbrev pub VerifiesBlock : Type 0
VerifiesBlock = unit_ops (little whole) true (255 ∷ 1 ∷ 255 ∷ 0x12 ∷ ff 12) restoring
    ≡ erases (record { start = 0; size = 4; kind = 1 }) ∷ writes (program 1 (1 ∷ [])) ∷ writes (program 3 (0x12 ∷ []))
    ∷ reads (program 0 (255 ∷ 1 ∷ [])) ∷ reads (program 2 (255 ∷ 0x12 ∷ [])) ∷ []

abbrev pub VerifiesNone : Type 0
VerifiesNone = unit_ops (little whole) false (255 ∷ 1 ∷ 255 ∷ 0x12 ∷ ff 12) restoring
    ≡ erases (record { start = 0; size = 4; kind = 1 }) ∷ writes (program 1 (1 ∷ [])) ∷ writes (program 3 (0x12 ∷ [])) ∷ []

-- a page outside is read over its programs
abbrev pub VerifiesPage : Type 0
VerifiesPage = unit_ops (little whole) true (ff 16) (record { erase = None; start = 6; size = 2; programs = program 6 (0x0F ∷ []) ∷ [] })
    ≡ writes (program 6 (0x0F ∷ [])) ∷ reads (program 6 (0x0F ∷ [])) ∷ []

-- what the fifth strategy doesn't reach, and which kinds the third reaches past three address bytes
abbrev pub Reached : Type 0
Reached = map (is_beyond S5) (0xFFFFFF ∷ 0x1000000 ∷ []) ++ map (λ kind. reaches S3 (little whole) kind 0x1000000) (1 ∷ 2 ∷ 3 ∷ [])
    ≡ false ∷ true ∷ true ∷ false ∷ true ∷ []

-- a byte that must rise in a region without a block is at fault, one that only falls is not
abbrev pub NoBlockIsFault : Type 0
NoBlockIsFault = map (is_at_fault (little (record { size = 16; kinds = 8 } ∷ [])) S2 (0 ∷ ff 15) (1 ∷ 0 ∷ ff 14)) (0 ∷ 1 ∷ 2 ∷ []) ≡ true ∷ false ∷ false ∷ []

-- with the profile of erased bytes a page is cut at what isn't FFh, and a change of such a byte is due
abbrev pub CutAtKept : Type 0
CutAtKept = units (record (little whole) { page = 4; erased_only = true }) S2 (255 ∷ 0x0F ∷ ff 14) (1 ∷ 0x0F ∷ 2 ∷ ff 13)
    ≡ record { erase = None; start = 0; size = 4; programs = program 0 (1 ∷ []) ∷ program 2 (2 ∷ []) ∷ [] } ∷ []

abbrev pub ErasedOnlyIsDue : Type 0
ErasedOnlyIsDue = units (record (little whole) { erased_only = true }) S2 (0x0F ∷ ff 15) (0 ∷ ff 15)
    ≡ record { erase = block 0 4 1; start = 0; size = 4; programs = program 0 (0 ∷ []) ∷ [] } ∷ []

-- 32 MiB, with dedicated opcodes or without, its mode entered and left in one way
abbrev pub big : Bool → Switch → Parameters
big has4 switch = record (tiny switch) {
  size = 0x2000000;
  page = 256;
  erases = Some (record { size = 4096; op = 0x20; op4 = Some 0x21 }) ∷ None ∷ None ∷ None ∷ [];
  regions = record { size = 0x2000000; kinds = 1 } ∷ [];
  program4 = has4;
  read4 = has4;
  quad4 = has4;
  quad_read4 = has4;
}

abbrev pub begin : Bool → Bool → Start
begin mode4 quad = record { mode4 = mode4; quad = quad }

abbrev pub Strategies : Type 0
Strategies = strategy (big true Plain) (begin true false) ∷ strategy (tiny Plain) (begin false false) ∷ strategy (big true Plain) (begin false false)
    ∷ strategy (big false Plain) (begin false false) ∷ strategy (big false Absent) (begin false false) ∷ [] ≡ S1 ∷ S2 ∷ S3 ∷ S4 ∷ S5 ∷ []

-- an instruction of one byte at an address
abbrev pub at : What → ℕ → ℕ → ℕ → ℕ → Instr
at is op address width dummies = record { what = is; op = op; address = address; width = width; dummies = dummies; bytes = 0 ∷ [] }

-- a program of 00h below 2^24 and one from there on
abbrev pub both : List Op
both = writes (program 0xFFFFFF (0 ∷ [])) ∷ writes (program 0x1000000 (0 ∷ [])) ∷ []

abbrev pub InMode : Type 0
InMode = lowered (big true Plain) (begin true false) S1 both
    ≡ enable ∷ at what.Program 0x02 0xFFFFFF 4 0 ∷ poll ∷ enable ∷ at what.Program 0x02 0x1000000 4 0 ∷ poll ∷ []

abbrev pub ThreeBytes : Type 0
ThreeBytes = lowered (tiny Plain) (begin false false) S2 (writes (program 5 (0 ∷ [])) ∷ []) ≡ enable ∷ at what.Program 0x02 5 3 0 ∷ poll ∷ []

abbrev pub DedicatedFar : Type 0
DedicatedFar = lowered (big true Plain) (begin false false) S3 both
    ≡ enable ∷ at what.Program 0x02 0xFFFFFF 3 0 ∷ poll ∷ enable ∷ at what.Program 0x12 0x1000000 4 0 ∷ poll ∷ []

abbrev pub EntersAndLeaves : Type 0
EntersAndLeaves = lowered (big false Plain) (begin false false) S4 both
    ≡ bare what.Enter 0xB7 ∷ enable ∷ at what.Program 0x02 0xFFFFFF 4 0 ∷ poll ∷ enable ∷ at what.Program 0x02 0x1000000 4 0 ∷ poll ∷ bare what.Leave 0xE9 ∷ []

abbrev pub EntersLatched : Type 0
EntersLatched = lowered (big false Latched) (begin false false) S4 (writes (program 0 (0 ∷ [])) ∷ [])
    ≡ enable ∷ bare what.Enter 0xB7 ∷ disable ∷ enable ∷ at what.Program 0x02 0 4 0 ∷ poll ∷ enable ∷ bare what.Leave 0xE9 ∷ disable ∷ []

abbrev pub NothingToDo : Type 0
NothingToDo = lowered (big false Plain) (begin false false) S4 [] ≡ []

abbrev pub BeyondReach : Type 0
BeyondReach = lowered (big false Absent) (begin false false) S5 (writes (program 0xFFFFFF (0 ∷ [])) ∷ []) ≡ enable ∷ at what.Program 0x02 0xFFFFFF 3 0 ∷ poll ∷ []

-- an erase and a verifying read on both sides
abbrev pub ErasesAndReads : Type 0
ErasesAndReads = lowered (big true Plain) (begin false false) S3
    (erases (record { start = 0xFFF000; size = 4096; kind = 1 }) ∷ erases (record { start = 0x1000000; size = 4096; kind = 1 })
    ∷ reads (program 0 (0 ∷ [])) ∷ reads (program 0x1000000 (0 ∷ [])) ∷ [])
    ≡ enable ∷ record (at (what.Erase 1) 0x20 0xFFF000 3 0) { bytes = [] } ∷ poll ∷ enable ∷ record (at (what.Erase 1) 0x21 0x1000000 4 0) { bytes = [] } ∷ poll
    ∷ at what.Read 0x03 0 3 0 ∷ at what.Read 0x13 0x1000000 4 0 ∷ []

-- the quad setting: 34h and 6Ch where they are offered, else 32h and the chip's own read where legacy opcodes are taken
abbrev pub QuadDedicated : Type 0
QuadDedicated = lowered (big true Plain) (begin false true) S3 (writes (program 0 (0 ∷ [])) ∷ reads (program 0x1000000 (0 ∷ [])) ∷ [])
    ≡ enable ∷ at what.QuadProgram 0x34 0 4 0 ∷ poll ∷ at what.QuadRead 0x6C 0x1000000 4 2 ∷ []

abbrev pub QuadLegacy : Type 0
QuadLegacy = lowered (record (big true Plain) { quad4 = false; quad_read4 = false }) (begin false true) S3
    (writes (program 0 (0 ∷ [])) ∷ writes (program 0x1000000 (0 ∷ [])) ∷ reads (program 0 (0 ∷ [])) ∷ reads (program 0x1000000 (0 ∷ [])) ∷ [])
    ≡ enable ∷ at what.QuadProgram 0x32 0 3 0 ∷ poll ∷ enable ∷ at what.Program 0x12 0x1000000 4 0 ∷ poll ∷ at what.QuadRead 0x6B 0 3 2 ∷ at what.Read 0x13 0x1000000 4 0 ∷ []
