-- What each symbol of a clock list stands for: the lanes that the host drives, their levels, and the lanes that it
-- samples. Lanes and levels as in the W25Q256JV datasheet (standard SPI, and the data of quad input and quad output);
-- the symbols are this project's.
use Rattle.std.specs.Prelude.{ℕ, Bool, ◌+◌, ◌-◌, ◌/◌, ◌==◌, nat_le, ◌&&◌, if◌then◌else◌, List, [], ◌∷◌, Option, Some, None, is_some, count_by}
use Rattle.std.specs.List.{find}
use Rattle.nor_base.specs.declared.clock.Clock.{Clock}
use Rattle.nor_base.specs.declared.clock.Clock.TheVariants.{Zero, One, Nibble0, Nibble1, Nibble2, Nibble3, Nibble4, Nibble5, Nibble6, Nibble7, Nibble8, Nibble9, Nibble10, Nibble11, Nibble12, Nibble13, Nibble14, Nibble15, SampleOne, SampleFour, Idle}
use Rattle.nor_base.specs.declared.clock.Sample.{Sample}

-- lane l as a mask: bit l
abbrev pub IO0 : ℕ
IO0 = 1

abbrev pub IO1 : ℕ
IO1 = 2

abbrev pub IO2 : ℕ
IO2 = 4

abbrev pub IO3 : ℕ
IO3 = 8

-- every lane
abbrev pub all_lanes : ℕ
all_lanes = IO0 + IO1 + IO2 + IO3

-- IO0 carries a bit; IO2 and IO3, the write protect and hold inputs, are high
abbrev pub bit_sample : ℕ → Sample
bit_sample level = record { driven = IO0 + IO2 + IO3; level = level + IO2 + IO3; sampled = 0 }

-- the four lanes carry a nibble, IO3 its highest bit
abbrev pub nibble_sample : ℕ → Sample
nibble_sample nibble = record { driven = all_lanes; level = nibble; sampled = 0 }

-- what the lanes do at a symbol: `0` and `1` send a bit, `a` to `p` a nibble, `.` samples IO1, `=` samples all four lanes,
-- `-` is idle; None where the byte is no symbol
abbrev pub sample_at : ℕ → Option Sample
sample_at byte =
    if byte == 0x30 then Some (bit_sample 0)
    else if byte == 0x31 then Some (bit_sample IO0)
    else if nat_le 0x61 byte && nat_le byte 0x70 then Some (nibble_sample (byte - 0x61))
    else if byte == 0x2E then Some (record { driven = IO2 + IO3; level = IO2 + IO3; sampled = IO1 })
    else if byte == 0x3D then Some (record { driven = 0; level = 0; sampled = all_lanes })
    else if byte == 0x2D then Some (record { driven = 0; level = 0; sampled = 0 })
    else None

-- the byte is a symbol
abbrev pub is_symbol : ℕ → Bool
is_symbol byte = is_some (sample_at byte)

-- the symbol of a clock: `0` `1`, `a` to `p`, `.`, `=`, `-`
abbrev pub symbol : Clock → ℕ
symbol Zero = 0x30
symbol One = 0x31
symbol Nibble0 = 0x61
symbol Nibble1 = 0x62
symbol Nibble2 = 0x63
symbol Nibble3 = 0x64
symbol Nibble4 = 0x65
symbol Nibble5 = 0x66
symbol Nibble6 = 0x67
symbol Nibble7 = 0x68
symbol Nibble8 = 0x69
symbol Nibble9 = 0x6A
symbol Nibble10 = 0x6B
symbol Nibble11 = 0x6C
symbol Nibble12 = 0x6D
symbol Nibble13 = 0x6E
symbol Nibble14 = 0x6F
symbol Nibble15 = 0x70
symbol SampleOne = 0x2E
symbol SampleFour = 0x3D
symbol Idle = 0x2D

abbrev pub clocks : List Clock
clocks = Zero ∷ One ∷ Nibble0 ∷ Nibble1 ∷ Nibble2 ∷ Nibble3 ∷ Nibble4 ∷ Nibble5 ∷ Nibble6 ∷ Nibble7 ∷ Nibble8 ∷ Nibble9 ∷ Nibble10 ∷ Nibble11 ∷ Nibble12 ∷ Nibble13 ∷ Nibble14 ∷ Nibble15 ∷ SampleOne ∷ SampleFour ∷ Idle ∷ []

-- the clock that has this symbol, if one has
abbrev pub clock_at : ℕ → Option Clock
clock_at byte = find (λ clock. symbol clock == byte) clocks

-- what the lanes do at a clock
abbrev pub sample : Clock → Sample
sample Zero = bit_sample 0
sample One = bit_sample IO0
sample Nibble0 = nibble_sample 0
sample Nibble1 = nibble_sample 1
sample Nibble2 = nibble_sample 2
sample Nibble3 = nibble_sample 3
sample Nibble4 = nibble_sample 4
sample Nibble5 = nibble_sample 5
sample Nibble6 = nibble_sample 6
sample Nibble7 = nibble_sample 7
sample Nibble8 = nibble_sample 8
sample Nibble9 = nibble_sample 9
sample Nibble10 = nibble_sample 10
sample Nibble11 = nibble_sample 11
sample Nibble12 = nibble_sample 12
sample Nibble13 = nibble_sample 13
sample Nibble14 = nibble_sample 14
sample Nibble15 = nibble_sample 15
sample SampleOne = record { driven = IO2 + IO3; level = IO2 + IO3; sampled = IO1 }
sample SampleFour = record { driven = 0; level = 0; sampled = all_lanes }
sample Idle = record { driven = 0; level = 0; sampled = 0 }

-- how many bytes clocks sample: a byte is eight `.` or two `=`
abbrev pub sampled_count : List ℕ → ℕ
sampled_count clocks = count_by (λ byte. byte == 0x2E) clocks / 8 + count_by (λ byte. byte == 0x3D) clocks / 2
