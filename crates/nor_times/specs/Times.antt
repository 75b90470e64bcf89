-- How long a chip is busy with its erases and programs (JESD216B, FF00h DWORDs 10 and 11), in microseconds. Each time is a
-- count plus one, times a unit.
use Rattle.std.specs.Prelude.{ℕ, ◌+◌, ◌*◌, ◌==◌, Bool, List, [], ◌∷◌, Option, Some, None, option_and_then, option_map, Result, Ok, Err, if◌then◌else◌}
use Rattle.nor_sfdp.specs.declared.fault.SfdpFault.{SfdpFault}
use Rattle.nor_sfdp.specs.Bits.{bits, is_set, dword_at}
use Rattle.nor_sfdp.specs.Tables.{table_of}
use Rattle.nor_times.specs.declared.times.Times.{Times}

-- an erase's unit: 1 ms, 16 ms, 128 ms, 1 s
abbrev pub erase_unit : ℕ → ℕ
erase_unit unit = if unit == 0 then 1000 else if unit == 1 then 16000 else if unit == 2 then 128000 else 1000000

abbrev pub erase_time : ℕ → ℕ → ℕ
erase_time count unit = (count + 1) * erase_unit unit

-- a page's unit: 8 or 64 us
abbrev pub page_unit : Bool → ℕ
page_unit long = if long then 64 else 8

abbrev pub page_time : ℕ → Bool → ℕ
page_time count long = (count + 1) * page_unit long

-- a byte's unit: 1 or 8 us
abbrev pub byte_unit : Bool → ℕ
byte_unit long = if long then 8 else 1

abbrev pub byte_time : ℕ → Bool → ℕ
byte_time count long = (count + 1) * byte_unit long

-- how many times the typical time the worst one is
abbrev pub factor : ℕ → ℕ
factor count = 2 * (count + 1)

-- DWORD 10: bits 3:0 the factor of erases; counts and units of Erase Types 1 to 4. DWORD 11: bits 3:0 the factor of programs;
-- counts and units of a page's program, of a program's first byte and of each further one
unfoldable pub times_by : ℕ → ℕ → Times
times_by dword10 dword11 = record {
  erases =
      erase_time (bits dword10 8 4) (bits dword10 10 9) ∷ erase_time (bits dword10 15 11) (bits dword10 17 16)
      ∷ erase_time (bits dword10 22 18) (bits dword10 24 23) ∷ erase_time (bits dword10 29 25) (bits dword10 31 30) ∷ [];
  erase_factor = factor (bits dword10 3 0);
  page = page_time (bits dword11 12 8) (is_set dword11 13);
  first_byte = byte_time (bits dword11 17 14) (is_set dword11 18);
  further_byte = byte_time (bits dword11 22 19) (is_set dword11 23);
  program_factor = factor (bits dword11 3 0);
}

-- of a basic table that has both DWORDs
unfoldable pub times_in : List ℕ → Option Times
times_in basic = option_and_then (λ dword10. option_map (λ dword11. times_by dword10 dword11) (dword_at basic 11)) (dword_at basic 10)

-- of the table that was found, if one was
abbrev pub times_where_there : Result (Option (List ℕ)) SfdpFault → Option Times
times_where_there (Ok (Some basic)) = times_in basic
times_where_there (Ok None) = None
times_where_there (Err fault) = None

-- of SFDP bytes
unfoldable pub times_of : List ℕ → Option Times
times_of bytes = times_where_there (table_of bytes 0xFF00)
