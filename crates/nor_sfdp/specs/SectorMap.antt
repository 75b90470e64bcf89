-- The sector map FF81h (JESD216B, 6.5): detection commands first, of two DWORDs each, then maps.
use Rattle.std.specs.Prelude.{ℕ, zero, suc, ◌+◌, ◌*◌, ◌==◌, ◌&&◌, ◌||◌, not, nat_lt, nat_le, Bool, Option, Some, None, List, [], ◌∷◌, length, map, sum_by, Result, Ok, Err, if◌then◌else◌}
use Rattle.std.specs.List.{find, list_all, range_with_len}
use Rattle.std.specs.Option.{option_or, option_map_or}
use Rattle.std.specs.Char.{is_digit}
use Rattle.std.specs.Str.Parse.{digits_value}
use Rattle.nor_base.specs.declared.meaning.Region.{Region}
use Rattle.nor_sfdp.specs.declared.fault.SfdpFault.{SfdpFault}
use Rattle.nor_sfdp.specs.declared.fault.SfdpFault.TheVariants.{MapForm, ConfigBits, NoMap, MapSize}
use Rattle.nor_sfdp.specs.declared.map.SectorMap.{SectorMap}
use Rattle.nor_sfdp.specs.Bits.{dword_count, word, bits, is_set}
use Rattle.nor_sfdp.specs.Tables.{◌>>=◌}

-- a detection command begins at DWORD k: bit 1 is clear
abbrev pub is_command : List ℕ → ℕ → Bool
is_command table k = nat_le k (dword_count table) && not (is_set (word table k) 1)

-- the commands that stand from DWORD k on, of at most n
abbrev pub commands_from : ℕ → List ℕ → ℕ → ℕ
commands_from zero table k = 0
commands_from (suc n) table k = if is_command table k then suc (commands_from n table (k + 2)) else 0

-- at most eight commands, none of which ends past the table
abbrev pub accepted_count : List ℕ → ℕ → Result ℕ SfdpFault
accepted_count table count = if nat_lt 8 count || nat_lt (dword_count table) (2 * count) then Err MapForm else Ok count

-- the number of detection commands
unfoldable pub command_count_of : List ℕ → Result ℕ SfdpFault
command_count_of table = accepted_count table (commands_from (dword_count table) table 1)

-- the map that begins at DWORD k: bits 15:8 its ID, 23:16 its number of regions, minus one. Bit 1 has to be set, and the map must
-- not end past the table
unfoldable pub checked_map : List ℕ → ℕ → Result SectorMap SfdpFault
checked_map table k =
    if not (is_set (word table k) 1) || nat_lt (dword_count table) (k + (bits (word table k) 23 16 + 1)) then Err MapForm
    else Ok (record { id = bits (word table k) 15 8; first = k + 1; count = bits (word table k) 23 16 + 1 })

-- the maps that stand from DWORD k on, at most n: up to one with bit 0 set, or up to the table's end
unfoldable pub maps_from : ℕ → List ℕ → ℕ → Result (List SectorMap) SfdpFault
maps_from zero table k = Ok []
maps_from (suc n) table k =
    if nat_lt (dword_count table) k then Ok []
    else (checked_map table k >>= λ m. if is_set (word table k) 0 then Ok (m ∷ []) else (maps_from n table (m.first + m.count) >>= λ others. Ok (m ∷ others)))

-- a map that was found, or else this one where it has the ID
abbrev pub found_or : Option SectorMap → SectorMap → ℕ → Option SectorMap
found_or found m id = option_or found (if m.id == id then Some m else None)

-- the first map with an ID, of those from DWORD k on
unfoldable pub first_map_of : List ℕ → ℕ → ℕ → Result (Option SectorMap) SfdpFault
first_map_of table k id = maps_from (dword_count table) table k >>= λ maps. Ok (find (λ (m : SectorMap). m.id == id) maps)

-- the ID that configuration bits give, a `0` or `1` for each command, the first the highest
unfoldable pub wanted_id : List ℕ → ℕ → Result ℕ SfdpFault
wanted_id config commands =
    if (length config == commands) && list_all (λ c. is_digit c 2) config then Ok (digits_value 2 config) else Err ConfigBits

-- a region's DWORD: bits 3:0 the erase kinds allowed, bits 31:8 the size in units of 256 bytes, minus one
abbrev pub region_of : ℕ → Region
region_of dword = record { size = 256 * (bits dword 31 8 + 1); kinds = bits dword 3 0 }

-- the bytes that regions have together
abbrev pub bytes_of : List Region → ℕ
bytes_of regions = sum_by (λ (region : Region). region.size) regions

-- the regions of a map
abbrev pub map_regions : List ℕ → SectorMap → List Region
map_regions table m = map (λ k. region_of (word table k)) (range_with_len m.first m.count)

-- the same, where they add up to the size
unfoldable pub regions_at : List ℕ → SectorMap → ℕ → Result (List Region) SfdpFault
regions_at table m size = if bytes_of (map_regions table m) == size then Ok (map_regions table m) else Err MapSize

-- the regions of the first map with the ID. Faults of the form come before those of the configuration bits, so that the ID isn't looked at where there is one
unfoldable pub mapped_regions : List ℕ → List ℕ → ℕ → Result (List Region) SfdpFault
mapped_regions table config size = do
  commands ← command_count_of table
  maps ← maps_from (dword_count table) table (2 * commands + 1)
  id ← wanted_id config commands
  option_map_or (λ m. regions_at table m size) (find (λ (m : SectorMap). m.id == id) maps) (Err NoMap)

-- the regions of a chip; without a sector map one region of all kinds, and no configuration bits
unfoldable pub regions_of : Option (List ℕ) → List ℕ → ℕ → Result (List Region) SfdpFault
regions_of None config size = if length config == 0 then Ok (record { size = size; kinds = 15 } ∷ []) else Err ConfigBits
regions_of (Some table) config size = mapped_regions table config size
