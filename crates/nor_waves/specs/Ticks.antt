-- What is on the wires at each tick of a list of steps. SPI mode 0 as the W25Q256JV's data sheet draws it: levels are set while the
-- clock is low, and taken where it rises. A tick is half a clock.
use Rattle.std.specs.Prelude.{ℕ, Bool, ◌+◌, ◌-◌, ◌/◌, ◌%◌, ◌^◌, ◌==◌, nat_lt, if◌then◌else◌, List, [], ◌∷◌, ◌++◌, length, slice_index, flat_map, unwrap_or}
use Rattle.nor_base.specs.declared.clock.Clock.TheVariants.{Idle}
use Rattle.nor_base.specs.declared.clock.Sample.{Sample}
use Rattle.nor_base.specs.declared.step.Step.{Step}
use Rattle.nor_base.specs.Sample.{clock_at, sample}
use Rattle.nor_base.specs.Step.{expected, step_clocks}
use Rattle.nor_waves.specs.declared.wires.Level.{Level}
use Rattle.nor_waves.specs.declared.wires.Level.TheVariants.{Low, High, Unknown, Floating}
use Rattle.nor_waves.specs.declared.wires.Levels.{Levels}
use Rattle.nor_waves.specs.Wires.{idle}

-- bit n of a number, the lowest first
abbrev pub is_set : ℕ → ℕ → Bool
is_set mask n = (mask / 2 ^ n) % 2 == 1

abbrev pub level_of : ℕ → ℕ → Level
level_of mask n = if is_set mask n then High else Low

-- how many of four lanes are in a mask
abbrev pub lanes_in : ℕ → ℕ
lanes_in mask = mask % 2 + (mask / 2) % 2 + (mask / 4) % 2 + (mask / 8) % 2

-- bit k of the bytes expected, the highest bit of the first byte first; past them nobody says what is read
abbrev pub bit_expected : List ℕ → ℕ → Level
bit_expected bytes k = if nat_lt (k / 8) (length bytes) then level_of (slice_index bytes (k / 8)) (7 - k % 8) else Unknown

-- lane n at a clock before which k bits were sampled: the level that the host drives; or, where it is sampled, the bit expected, the
-- highest of the lanes sampled first; else nobody drives it
abbrev pub lane : List ℕ → ℕ → Sample → ℕ → Level
lane bytes k s n =
    if is_set s.driven n then level_of s.level n
    else if is_set s.sampled n then bit_expected bytes (k + lanes_in (s.sampled / 2 ^ (n + 1)))
    else Floating

-- all wires at half a clock
abbrev pub levels_at : List ℕ → ℕ → Sample → Level → Levels
levels_at bytes k s clock = record {
  select = Low;
  clock = clock;
  io0 = lane bytes k s 0;
  io1 = lane bytes k s 1;
  io2 = lane bytes k s 2;
  io3 = lane bytes k s 3;
  sampling = if s.sampled == 0 then Low else High;
}

-- a clock is low and then high
abbrev pub clock_ticks : List ℕ → ℕ → Sample → List Levels
clock_ticks bytes k s = levels_at bytes k s Low ∷ levels_at bytes k s High ∷ []

-- what the lanes do at a symbol; at a byte that is none, nothing
abbrev pub sample_at : ℕ → Sample
sample_at symbol = sample (unwrap_or (clock_at symbol) Idle)

-- clocks, before which k bits were sampled
unfoldable pub clocks_ticks : List ℕ → ℕ → List ℕ → List Levels
clocks_ticks bytes k [] = []
clocks_ticks bytes k (symbol ∷ rest) =
    clock_ticks bytes k (sample_at symbol) ++ clocks_ticks bytes (k + lanes_in (sample_at symbol).sampled) rest

-- four ticks between transactions
abbrev pub gap : List Levels
gap = idle ∷ idle ∷ idle ∷ idle ∷ []

-- a step: the gap before it, and its transaction, once
unfoldable pub step_ticks : Step → List Levels
step_ticks x = gap ++ clocks_ticks (expected x) 0 (step_clocks x)

-- steps, and the gap after the last
unfoldable pub ticks : List Step → List Levels
ticks steps = flat_map step_ticks steps ++ gap
