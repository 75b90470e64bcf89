-- DWORDs of a table, and fields of a DWORD (JESD216B, 6.1: a DWORD is four bytes, the lowest first; DWORDs count from 1).
use Rattle.std.specs.Prelude.{ℕ, ◌+◌, ◌-◌, ◌*◌, ◌/◌, ◌%◌, ◌^◌, ◌==◌, ◌&&◌, nat_lt, nat_le, Bool, List, length, drop, Option, Some, None, unwrap_or, option_and_then, if◌then◌else◌}
use Rattle.byteorder.specs.Endian.{little_number}

-- the DWORDs that a table's bytes hold
abbrev pub dword_count : List ℕ → ℕ
dword_count table = length table / 4

-- the DWORD with a number, which counts from 1
unfoldable pub dword_at : List ℕ → ℕ → Option ℕ
dword_at table k = if nat_lt 0 k && nat_le k (dword_count table) then Some (little_number 4 (drop (4 * (k - 1)) table)) else None

-- the same, where a DWORD that isn't there counts as 0
abbrev pub word : List ℕ → ℕ → ℕ
word table k = unwrap_or (dword_at table k) 0

-- the same of a table that may be missing
abbrev pub word_in : Option (List ℕ) → ℕ → ℕ
word_in table k = unwrap_or (option_and_then (λ t. dword_at t k) table) 0

-- bits high:low of a DWORD
abbrev pub bits : ℕ → ℕ → ℕ → ℕ
bits dword high low = (dword / 2 ^ low) % 2 ^ (high + 1 - low)

-- one bit of a DWORD
abbrev pub is_set : ℕ → ℕ → Bool
is_set dword n = (dword / 2 ^ n) % 2 == 1
