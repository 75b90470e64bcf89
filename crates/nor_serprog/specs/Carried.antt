-- Which clocks are one operation of a serprog device (Serial Flasher Protocol, command 13h: bytes go out, and then bytes come in,
-- under one chip select).
use Rattle.std.specs.Prelude.{◌≡◌, ◌≤◌, ◌<◌, ℕ, Bool, true, ◌*◌, ◌/◌, ◌%◌, ◌==◌, ◌&&◌, ◌||◌, nat_lt, nat_le, List, ◌++◌, length, flat_map, replicate}
use Rattle.std.specs.List.{list_all}
use Rattle.nor_base.specs.Array.{are_bytes}
use Rattle.nor_base.specs.Clocks.{bits}
use Rattle.nor_serprog.specs.declared.limits.Limits.{Limits}

-- bytes are sent on one lane, the highest bit first, and then so many are sampled from one lane
abbrev pub operation_clocks : List ℕ → ℕ → List ℕ
operation_clocks sent asked = flat_map bits sent ++ replicate (8 * asked) 0x2E

-- the clocks send these bytes, some, and then sample so many, no more than the device can
pub record IsOperation (limits : Limits) (clocks sent : List ℕ) (asked : ℕ) : Type 0 where
  pub spelled : clocks ≡ operation_clocks sent asked
  pub bytes : are_bytes sent ≡ true
  pub some : 0 < length sent
  pub few_sent : length sent ≤ limits.sent
  pub few_asked : asked ≤ limits.asked

-- no bytes have these clocks
abbrev pub IsNoOperation : Limits → List ℕ → Type 0
IsNoOperation limits clocks = (sent : List ℕ) (asked : ℕ) → IsOperation limits clocks sent asked → ⊥

-- the symbol of a bit that is sent on IO0; of one that is sampled from IO1
abbrev pub is_bit : ℕ → Bool
is_bit symbol = (symbol == 0x30) || (symbol == 0x31)

abbrev pub is_sample : ℕ → Bool
is_sample symbol = symbol == 0x2E

-- whole bytes on one lane: sent, some; sampled
abbrev pub are_bytes_sent : List ℕ → Bool
are_bytes_sent clocks = nat_lt 0 (length clocks) && ((length clocks % 8 == 0) && list_all is_bit clocks)

abbrev pub are_bytes_sampled : List ℕ → Bool
are_bytes_sampled clocks = (length clocks % 8 == 0) && list_all is_sample clocks

-- they are of these forms, and within the limits
abbrev pub fits : Limits → List ℕ → List ℕ → Bool
fits limits sent sampled =
    are_bytes_sent sent && (are_bytes_sampled sampled && (nat_le (length sent / 8) limits.sent && nat_le (length sampled / 8) limits.asked))
