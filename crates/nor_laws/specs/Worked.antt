-- Values of the definitions worked out by hand: on a chip of 32 bytes with a page of 16, and a script on the 8 KiB chip.
use Rattle.std.specs.Prelude.{◌≡◌, ℕ, Bool, true, false, List, [], ◌∷◌, ◌++◌, length, replicate, map, not, ◌==◌, codes, Some, None, Ok, Err}
use Rattle.nor_base.specs.declared.instruction.What.TheVariants as what
use Rattle.nor_base.specs.declared.meaning.Switch.{Switch}
use Rattle.nor_base.specs.declared.meaning.Switch.TheVariants.{Absent, Plain, Latched}
use Rattle.nor_base.specs.declared.meaning.Width.TheVariants.{Both, Four}
use Rattle.nor_base.specs.declared.step.Step.{Step}
use Rattle.nor_base.specs.declared.step.Step.TheVariants.{Send, Poll, Verify}
use Rattle.nor_base.specs.declared.wrong.Wrong.{Wrong}
use Rattle.nor_base.specs.declared.wrong.Wrong.TheVariants as wrong
use Rattle.nor_base.specs.Parameters.{Parameters}
use Rattle.nor_base.specs.Accepted.{IsAccepted}
use Rattle.nor_base.specs.Uniform.{uniform_of}
use Rattle.nor_base.specs.Blocks.{is_legal}
use Rattle.nor_base.specs.Target.{target, is_ignored}
use Rattle.nor_base.specs.Decoding.{transaction}
use Rattle.nor_base.specs.Script.{script_text}
use Rattle.nor_base.specs.Chip.{Setting, Chip, chip_of, ready}
use Rattle.nor_base.specs.Run.{poll_clocks, run, trail, DoesTask}

-- 32 bytes, pages and blocks of 16, every instruction there
abbrev pub tiny : Switch → Parameters
tiny switch = record {
  size = 32;
  page = 16;
  open_page = false;
  width = Both;
  erases = Some (record { size = 16; op = 0x20; op4 = Some 0x21 }) ∷ None ∷ None ∷ None ∷ [];
  regions = record { size = 32; kinds = 1 } ∷ [];
  enter = switch;
  leave = switch;
  quad_read = Some (record { op = 0x6B; dummies = 2 });
  read4 = true;
  quad_read4 = true;
  program4 = true;
  quad4 = true;
  quad3 = true;
  erased_only = false;
}

-- that chip in three-byte mode with the quad setting
abbrev pub tiny_chip : Switch → List ℕ → Bool → Setting
tiny_chip switch busy keeps = chip_of (tiny switch) (record { mode4 = false; quad = true }) busy keeps

abbrev pub blank : List ℕ
blank = replicate 32 255

-- the steps leave this chip; or they stop at one of them, and that is why
abbrev pub Leaves : Setting → List ℕ → List Step → Chip → Type 0
Leaves s array steps after = run s (ready s array) steps ≡ Ok after

abbrev pub StopsAt : Setting → List ℕ → List Step → ℕ → Wrong → Chip → Type 0
StopsAt s array steps at why chip = run s (ready s array) steps ≡ Err (record { at = at; why = why; chip = chip })

abbrev pub chip_with : List ℕ → Bool → Bool → ℕ → List ℕ → Chip
chip_with array latch mode4 left to_come = record { array = array; latch = latch; mode4 = mode4; left = left; to_come = to_come }

abbrev pub enable : Step
enable = Send (codes "00000110")

abbrev pub poll : Step
poll = Poll poll_clocks

-- 06h sets the latch
abbrev pub EnableSetsLatch : Type 0
EnableSetsLatch = Leaves (tiny_chip Plain [] false) blank (enable ∷ []) (chip_with blank true false 0 [])

-- 02h at 000005h of A5h: the byte is there, the latch is clear, and two status reads are left
abbrev pub program_at_5 : Step
program_at_5 = Send (codes "00000010000000000000000000000101" ++ codes "10100101")

abbrev pub one_byte_at_5 : List ℕ
one_byte_at_5 = replicate 5 255 ++ (0xA5 ∷ replicate 26 255)

abbrev pub ProgramWrites : Type 0
ProgramWrites = Leaves (tiny_chip Plain (2 ∷ []) false) blank (enable ∷ program_at_5 ∷ []) (chip_with one_byte_at_5 false false 2 [])

-- two status reads left make three transactions, and then none
abbrev pub PollWaits : Type 0
PollWaits = Leaves (tiny_chip Plain (2 ∷ []) false) blank (enable ∷ program_at_5 ∷ poll ∷ []) (chip_with one_byte_at_5 false false 0 [])

abbrev pub PollCountsThree : Type 0
PollCountsThree = length (trail (tiny_chip Plain (2 ∷ []) false) (ready (tiny_chip Plain (2 ∷ []) false) blank) (enable ∷ program_at_5 ∷ poll ∷ [])) ≡ 5

-- the second program is busy for the second time of the list, the third for none
abbrev pub TimesInTurn : Type 0
TimesInTurn = Leaves (tiny_chip Plain (1 ∷ 2 ∷ []) false) blank (enable ∷ program_at_5 ∷ poll ∷ enable ∷ program_at_5 ∷ []) (chip_with one_byte_at_5 false false 2 [])

abbrev pub NoTimeLeft : Type 0
NoTimeLeft = Leaves (tiny_chip Plain (1 ∷ []) false) blank (enable ∷ program_at_5 ∷ poll ∷ enable ∷ program_at_5 ∷ []) (chip_with one_byte_at_5 false false 0 [])

-- while busy another instruction is ignored, and the chip stays as it was
abbrev pub BusyIgnores : Type 0
BusyIgnores = StopsAt (tiny_chip Plain (2 ∷ []) false) blank (enable ∷ program_at_5 ∷ enable ∷ []) 2 wrong.Ignored (chip_with one_byte_at_5 false false 2 [])

-- 02h at 00000Eh of 11h 22h 33h: the third byte goes round to the start of the page
abbrev pub ProgramWraps : Type 0
ProgramWraps = Leaves (tiny_chip Plain [] false) blank
    (enable ∷ Send (codes "00000010000000000000000000001110" ++ codes "000100010010001000110011") ∷ [])
    (chip_with (0x33 ∷ (replicate 13 255 ++ (0x11 ∷ 0x22 ∷ replicate 16 255))) false false 0 [])

-- 17 bytes from 000010h on, 00h first and 0Fh last, all others FFh: the last one counts
abbrev pub LastByteCounts : Type 0
LastByteCounts = Leaves (tiny_chip Plain [] false) blank
    (enable ∷ Send (codes "00000010000000000000000000010000" ++ (codes "00000000" ++ (replicate 120 0x31 ++ codes "00001111"))) ∷ [])
    (chip_with (replicate 16 255 ++ (0x0F ∷ replicate 15 255)) false false 0 [])

-- 01h over 00h raises a bit, and nothing changes
abbrev pub RaiseIsWrong : Type 0
RaiseIsWrong = StopsAt (tiny_chip Plain [] false) (0 ∷ replicate 31 255)
    (enable ∷ Send (codes "00000010000000000000000000000000" ++ codes "00000001") ∷ []) 1 wrong.Raised (chip_with (0 ∷ replicate 31 255) true false 0 [])

-- a program without the latch is ignored
abbrev pub NoLatchIgnores : Type 0
NoLatchIgnores = StopsAt (tiny_chip Plain [] false) blank (program_at_5 ∷ []) 0 wrong.Ignored (chip_with blank false false 0 [])

-- B7h enters four-byte mode; a latch that was set stays where the chip keeps it
abbrev pub EnterPlain : Type 0
EnterPlain = Leaves (tiny_chip Plain [] false) blank (Send (codes "10110111") ∷ []) (chip_with blank false true 0 [])

abbrev pub EnterLatched : (keeps : Bool) → Type 0
EnterLatched keeps = Leaves (tiny_chip Latched [] keeps) blank (enable ∷ Send (codes "10110111") ∷ []) (chip_with blank keeps true 0 [])

abbrev pub LeaveLatched : (keeps : Bool) → Type 0
LeaveLatched keeps = Leaves (tiny_chip Latched [] keeps) blank
    (enable ∷ Send (codes "10110111") ∷ enable ∷ Send (codes "11101001") ∷ Send (codes "00000100") ∷ []) (chip_with blank false false 0 [])

-- B7h of a latched switch without the latch
abbrev pub EnterNeedsLatch : Type 0
EnterNeedsLatch = StopsAt (tiny_chip Latched [] false) blank (Send (codes "10110111") ∷ []) 0 wrong.Ignored (chip_with blank false false 0 [])

-- 32h at 0 of A5h on four lanes, and 6Bh with two dummies reads it
abbrev pub QuadProgramsAndReads : Type 0
QuadProgramsAndReads = Leaves (tiny_chip Plain [] false) blank
    (enable ∷ Send (codes "00110010000000000000000000000000" ++ codes "kf")
    ∷ Verify (codes "01101011000000000000000000000000" ++ codes "--==") (0xA5 ∷ []) ∷ [])
    (chip_with (0xA5 ∷ replicate 31 255) false false 0 [])

-- 21h with four address bytes erases the second block, in three-byte mode
abbrev pub DedicatedErase : Type 0
DedicatedErase = Leaves (tiny_chip Plain [] false) (replicate 32 0)
    (enable ∷ Send (codes "00100001" ++ codes "00000000000000000000000000010000") ∷ [])
    (chip_with (replicate 16 0 ++ replicate 16 255) false false 0 [])

-- an erase in mid-block
abbrev pub EraseInMidBlock : Type 0
EraseInMidBlock = StopsAt (tiny_chip Plain [] false) blank (enable ∷ Send (codes "00100000000000000000000000001000") ∷ []) 1 wrong.OutOfRange
    (chip_with blank true false 0 [])

-- 06h with a ninth clock is broken; 9Fh is no instruction, nor are seven clocks
abbrev pub BrokenIsIgnored : Type 0
BrokenIsIgnored = StopsAt (tiny_chip Plain [] false) blank (Send (codes "000001100") ∷ []) 0 wrong.Ignored (chip_with blank false false 0 [])

abbrev pub UnknownOpcode : Type 0
UnknownOpcode = StopsAt (tiny_chip Plain [] false) blank (Send (codes "10011111") ∷ []) 0 wrong.Unknown (chip_with blank false false 0 [])

abbrev pub SevenClocks : Type 0
SevenClocks = StopsAt (tiny_chip Plain [] false) blank (Send (codes "0000011") ∷ []) 0 wrong.Unknown (chip_with blank false false 0 [])

-- 03h at 00001Fh reads the last byte; of two bytes the second is past the end
abbrev pub ReadsLastByte : Type 0
ReadsLastByte = transaction (tiny Plain) false (codes "00000011000000000000000000011111" ++ codes "........")
    ≡ Some (record { what = what.Read; address = 31; body = codes "........" })

abbrev pub ReadPastEnd : Type 0
ReadPastEnd = StopsAt (tiny_chip Plain [] false) blank (Verify (codes "00000011000000000000000000011111" ++ codes "................") (255 ∷ 255 ∷ []) ∷ [])
    0 wrong.OutOfRange (chip_with blank false false 0 [])

-- the script that programs 00h at 0
abbrev pub one_byte_script : List Step
one_byte_script = enable ∷ Send (codes "00000010000000000000000000000000" ++ codes "00000000") ∷ poll ∷ []

abbrev pub one_byte_text : List ℕ
one_byte_text =
    codes "norscript 1" ++ (0x0A ∷ (codes "x 00000110" ++ (0x0A ∷ (codes "x 0000001000000000000000000000000000000000" ++ (0x0A
    ∷ (codes "p 00000101........" ++ (0x0A ∷ (codes "end 3" ++ (0x0A ∷ [])))))))))

abbrev pub OneByteText : Type 0
OneByteText = script_text one_byte_script ≡ one_byte_text

abbrev pub OneByteTextLength : Type 0
OneByteTextLength = length one_byte_text ≡ 91

-- on the erased 8 KiB chip, with a first busy time
abbrev pub OneByteRun : ℕ → Bool → Type 0
OneByteRun busy keeps = DoesTask (chip_of (uniform_of 8192) (record { mode4 = false; quad = false }) (busy ∷ []) keeps)
    (replicate 8192 255) (0 ∷ replicate 8191 255) one_byte_script

-- a chip at the upper limits: 256 MiB, pages and one kind of 4096 bytes, a kind of 16 MiB, 256 regions, 38 dummies
abbrev pub widest : Parameters
widest = record {
  size = 0x10000000;
  page = 4096;
  open_page = false;
  width = Four;
  erases = None ∷ Some (record { size = 0x1000000; op = 0xD8; op4 = Some 0xDC }) ∷ None ∷ Some (record { size = 4096; op = 0; op4 = Some 0xFF }) ∷ [];
  regions = replicate 256 (record { size = 0x100000; kinds = 15 });
  enter = Absent;
  leave = Absent;
  quad_read = Some (record { op = 0x01; dummies = 38 });
  read4 = true;
  quad_read4 = true;
  program4 = true;
  quad4 = true;
  quad3 = true;
  erased_only = false;
}

abbrev pub WidestIsAccepted : Type 0
WidestIsAccepted = IsAccepted widest

-- 64 KiB in a region of 4 KiB for kind 1 and one of 60 KiB for kind 2, whose blocks of 64 KiB fit nowhere
abbrev pub mapped : Parameters
mapped = record (uniform_of 0x10000) {
  erases = Some (record { size = 4096; op = 0x20; op4 = None }) ∷ Some (record { size = 0x10000; op = 0xD8; op4 = None }) ∷ None ∷ None ∷ [];
  regions = record { size = 4096; kinds = 1 } ∷ record { size = 0xF000; kinds = 2 } ∷ [];
}

abbrev pub BlocksOfMap : Type 0
BlocksOfMap = map (is_legal mapped 1) (0 ∷ 1 ∷ 4096 ∷ []) ≡ true ∷ false ∷ false ∷ []

abbrev pub NoBlocksOfMap : Type 0
NoBlocksOfMap = map (λ kind. is_legal mapped kind 0) (0 ∷ 2 ∷ 3 ∷ 5 ∷ []) ≡ false ∷ false ∷ false ∷ false ∷ []

-- an image that gives each address its own number, moved by 10, of which address 1 alone is chosen
abbrev pub TargetOfOne : Type 0
TargetOfOne = target (λ a. Some a) 10 (λ a. a == 1) (1 ∷ 2 ∷ 3 ∷ []) ≡ 1 ∷ 11 ∷ 3 ∷ []

-- from the last address of the image's space on: what would lie past 2^32 stays
abbrev pub TargetAtTheEnd : Type 0
TargetAtTheEnd = target (λ a. Some 7) 0xFFFFFFFF (λ a. true) (1 ∷ 2 ∷ []) ≡ 7 ∷ 2 ∷ []

-- of a chip of four bytes from 10 on, all but address 1 chosen
abbrev pub IgnoredOfFour : Type 0
IgnoredOfFour = map (is_ignored 10 (λ a. not (a == 1)) 4) (9 ∷ 10 ∷ 11 ∷ 13 ∷ 14 ∷ []) ≡ true ∷ false ∷ true ∷ false ∷ true ∷ []
