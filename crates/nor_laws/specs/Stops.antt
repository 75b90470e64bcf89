-- Where a run stops, worked out by hand: a verifying read, polls and reads of other forms, the profile of erased bytes; and where
-- a program goes round in its page.
use Rattle.std.specs.Prelude.{◌≡◌, ℕ, true, false, List, [], ◌∷◌, ◌++◌, replicate, codes, Ok}
use Rattle.nor_base.specs.declared.meaning.Switch.TheVariants.{Plain}
use Rattle.nor_base.specs.declared.step.Step.{Step}
use Rattle.nor_base.specs.declared.step.Step.TheVariants.{Send, Poll, Verify}
use Rattle.nor_base.specs.declared.wrong.Wrong.TheVariants as wrong
use Rattle.nor_base.specs.Chip.{Setting, Chip, ready}
use Rattle.nor_base.specs.Effect.{effect}
use Rattle.nor_base.specs.Run.{IsGoodRun}
use Rattle.nor_laws.specs.Worked.{tiny, tiny_chip, blank, Leaves, StopsAt, chip_with, enable, program_at_5, one_byte_at_5}

abbrev pub here : Setting
here = tiny_chip Plain (2 ∷ []) false

-- 03h at 0 gives FFh where 00h is expected
abbrev pub ReadsAnother : Type 0
ReadsAnother = StopsAt here blank (Verify (codes "00000011000000000000000000000000" ++ codes "........") (0 ∷ []) ∷ []) 0 wrong.Mismatch (chip_with blank false false 0 (2 ∷ []))

-- a poll that reads two bytes is no poll, idle or busy
abbrev pub long_poll : Step
long_poll = Poll (codes "00000101................")

abbrev pub LongPollIdle : Type 0
LongPollIdle = StopsAt here blank (long_poll ∷ []) 0 wrong.Unknown (chip_with blank false false 0 (2 ∷ []))

abbrev pub LongPollBusy : Type 0
LongPollBusy = StopsAt here blank (enable ∷ program_at_5 ∷ long_poll ∷ []) 2 wrong.Unknown (chip_with one_byte_at_5 false false 2 [])

-- a status read isn't verified, nor what samples nothing
abbrev pub VerifiesStatus : Type 0
VerifiesStatus = StopsAt here blank (Verify (codes "00000101........") (0 ∷ []) ∷ []) 0 wrong.Unknown (chip_with blank false false 0 (2 ∷ []))

abbrev pub VerifiesNothing : Type 0
VerifiesNothing = StopsAt here blank (Verify (codes "00000110") (0 ∷ []) ∷ []) 0 wrong.Unknown (chip_with blank false false 0 (2 ∷ []))

-- 03h with nine clocks of data is no read
abbrev pub NineClocks : Type 0
NineClocks = StopsAt here blank (Send (codes "00000011000000000000000000000000" ++ codes ".........") ∷ []) 0 wrong.Ignored (chip_with blank false false 0 (2 ∷ []))

-- a run that ends with the latch set, or busy, isn't good
abbrev pub LatchIsLeft : Type 0
LatchIsLeft = (d : Chip) → IsGoodRun here (ready here blank) (enable ∷ []) d → ⊥

abbrev pub BusyIsLeft : Type 0
BusyIsLeft = (d : Chip) → IsGoodRun here (ready here blank) (enable ∷ program_at_5 ∷ []) d → ⊥

-- a quad read without the quad setting is ignored
abbrev pub single : Setting
single = record here { start = record { mode4 = false; quad = false } }

abbrev pub QuadOff : Type 0
QuadOff = StopsAt single blank (Verify (codes "01101011000000000000000000000000" ++ codes "--==") (255 ∷ []) ∷ []) 0 wrong.Ignored (chip_with blank false false 0 (2 ∷ []))

-- an erase in the middle of a block, without the latch: the latch is looked at first
abbrev pub LatchFirst : Type 0
LatchFirst = StopsAt here blank (Send (codes "00100000000000000000000000001000") ∷ []) 0 wrong.Ignored (chip_with blank false false 0 (2 ∷ []))

-- the status: 02h with the latch set; 03h while busy, each byte of one read, which counts once
abbrev pub StatusOfLatch : Type 0
StatusOfLatch = effect here (chip_with blank true false 0 []) (codes "00000101........") ≡ Ok (chip_with blank true false 0 [], 2 ∷ [])

abbrev pub StatusOfBusy : Type 0
StatusOfBusy = effect here (chip_with blank false false 2 []) (codes "00000101................") ≡ Ok (chip_with blank false false 1 [], 3 ∷ 3 ∷ [])

-- F0h over F0h: no bit rises; with the profile of erased bytes it is refused all the same
abbrev pub kept : List ℕ
kept = 0xF0 ∷ replicate 31 255

abbrev pub same_byte : List Step
same_byte = enable ∷ Send (codes "00000010000000000000000000000000" ++ codes "11110000") ∷ []

abbrev pub erased_only : Setting
erased_only = record here { meaning = record (tiny Plain) { erased_only = true } }

abbrev pub CoversKept : Type 0
CoversKept = StopsAt erased_only kept same_byte 1 wrong.NotErased (chip_with kept true false 0 (2 ∷ []))

abbrev pub CoversKeptElsewhere : Type 0
CoversKeptElsewhere = Leaves here kept same_byte (chip_with kept false false 2 [])

-- 02h at 000006h of 11h 22h 33h on 32 bytes: in a page of 8 the third byte goes round, in one of 16 it goes on
abbrev pub three_at_6 : List Step
three_at_6 = enable ∷ Send (codes "00000010000000000000000000000110" ++ codes "000100010010001000110011") ∷ []

abbrev pub paged : ℕ → Setting
paged page = record here { meaning = record (tiny Plain) { page = 8; open_page = true }; page = page }

abbrev pub RoundInLeast : Type 0
RoundInLeast = Leaves (paged 8) blank three_at_6 (chip_with (0x33 ∷ (replicate 5 255 ++ (0x11 ∷ 0x22 ∷ replicate 24 255))) false false 2 [])

abbrev pub OnInLarger : Type 0
OnInLarger = Leaves (paged 16) blank three_at_6 (chip_with (replicate 6 255 ++ (0x11 ∷ 0x22 ∷ 0x33 ∷ replicate 23 255)) false false 2 [])
