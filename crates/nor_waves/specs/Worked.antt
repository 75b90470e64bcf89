-- Values of the waveform, worked out by hand.
use Rattle.std.specs.Prelude.{◌≡◌, ℕ, List, [], ◌∷◌, ◌++◌, map, codes}
use Rattle.nor_base.specs.declared.step.Step.{Step}
use Rattle.nor_base.specs.declared.step.Step.TheVariants.{Send, Poll, Verify}
use Rattle.nor_waves.specs.declared.wires.Level.{Level}
use Rattle.nor_waves.specs.declared.wires.Levels.{Levels}
use Rattle.nor_waves.specs.Wires.{letter}
use Rattle.nor_waves.specs.Ticks.{ticks}
use Rattle.nor_waves.specs.Waves.{header, waves}

-- the values of a wire, tick after tick
abbrev pub wire : (Levels → Level) → List Step → List ℕ
wire of_wire steps = map (λ now. letter (of_wire now)) (ticks steps)

-- those of the control wires
pub record IsTimed (x : Step) (select clock sampling : List ℕ) : Type 0 where
  pub selected : wire (λ now. now.select) (x ∷ []) ≡ select
  pub clocked : wire (λ now. now.clock) (x ∷ []) ≡ clock
  pub sampled : wire (λ now. now.sampling) (x ∷ []) ≡ sampling

-- those of the lanes
pub record IsDriven (x : Step) (io0 io1 io2 io3 : List ℕ) : Type 0 where
  pub lane0 : wire (λ now. now.io0) (x ∷ []) ≡ io0
  pub lane1 : wire (λ now. now.io1) (x ∷ []) ≡ io1
  pub lane2 : wire (λ now. now.io2) (x ∷ []) ≡ io2
  pub lane3 : wire (λ now. now.io3) (x ∷ []) ≡ io3

-- 06h is sent: 0000 0110 on IO0
abbrev pub enable : Step
enable = Send (codes "00000110")

abbrev pub EnableTimed : Type 0
EnableTimed = IsTimed enable (codes "111100000000000000001111") (codes "000001010101010101010000") (codes "000000000000000000000000")

abbrev pub EnableDriven : Type 0
EnableDriven = IsDriven enable (codes "zzzz0000000000111100zzzz") (codes "zzzzzzzzzzzzzzzzzzzzzzzz") (codes "zzzz1111111111111111zzzz") (codes "zzzz1111111111111111zzzz")

-- A5h is to be read: 1010 0101 on IO1
abbrev pub reading : Step
reading = Verify (codes "........") (0xA5 ∷ [])

abbrev pub ReadTimed : Type 0
ReadTimed = IsTimed reading (codes "111100000000000000001111") (codes "000001010101010101010000") (codes "000011111111111111110000")

abbrev pub ReadDriven : Type 0
ReadDriven = IsDriven reading (codes "zzzzzzzzzzzzzzzzzzzzzzzz") (codes "zzzz1100110000110011zzzz") (codes "zzzz1111111111111111zzzz") (codes "zzzz1111111111111111zzzz")

-- what a poll reads, nobody says
abbrev pub PollDriven : Type 0
PollDriven = IsDriven (Poll (codes "0........")) (codes "zzzz00zzzzzzzzzzzzzzzzzzzz") (codes "zzzzzzxxxxxxxxxxxxxxxxzzzz") (codes "zzzz111111111111111111zzzz") (codes "zzzz111111111111111111zzzz")

-- A5h is sent by four lanes, and is to be read by four: Ah and 5h, IO3 the highest bit; a nibble past it, nobody says
abbrev pub quad : Step
quad = Send (codes "kf")

abbrev pub QuadTimed : Type 0
QuadTimed = IsTimed quad (codes "111100001111") (codes "000001010000") (codes "000000000000")

abbrev pub QuadDriven : Type 0
QuadDriven = IsDriven quad (codes "zzzz0011zzzz") (codes "zzzz1100zzzz") (codes "zzzz0011zzzz") (codes "zzzz1100zzzz")

abbrev pub reading4 : Step
reading4 = Verify (codes "-===") (0xA5 ∷ [])

abbrev pub QuadReadTimed : Type 0
QuadReadTimed = IsTimed reading4 (codes "1111000000001111") (codes "0000010101010000") (codes "0000001111110000")

abbrev pub QuadReadDriven : Type 0
QuadReadDriven = IsDriven reading4 (codes "zzzzzz0011xxzzzz") (codes "zzzzzz1100xxzzzz") (codes "zzzzzz0011xxzzzz") (codes "zzzzzz1100xxzzzz")

-- a byte that is no symbol drives nothing
abbrev pub StrangeDriven : Type 0
StrangeDriven = IsDriven (Send (codes "q")) (codes "zzzzzzzzzz") (codes "zzzzzzzzzz") (codes "zzzzzzzzzz") (codes "zzzzzzzzzz")

-- no steps: four ticks
abbrev pub NothingDrawn : Type 0
NothingDrawn = waves [] ≡ header ++ codes "#4\n"

-- a 1 is sent: the wires that change at ticks 4 (low), 5 (the clock rises) and 6 (the end); it ends at 10
abbrev pub BitDrawn : Type 0
BitDrawn = waves (Send (codes "1") ∷ []) ≡ header ++ codes "#4\n0!\n1#\n1%\n1&\n#5\n1\"\n#6\n1!\n0\"\nz#\nz%\nz&\n#10\n"

-- two steps: the gap between them has no change
abbrev pub BitsDrawn : Type 0
BitsDrawn = waves (Send (codes "-") ∷ Send (codes "-") ∷ []) ≡ header ++ codes "#4\n0!\n#5\n1\"\n#6\n1!\n0\"\n#10\n0!\n#11\n1\"\n#12\n1!\n0\"\n#16\n"
