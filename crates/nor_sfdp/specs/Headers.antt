-- The SFDP header and the parameter headers (JESD216B, 6.2 and 6.3).
use Rattle.std.specs.Prelude.{ℕ, ◌+◌, ◌*◌, ◌==◌, ◌&&◌, ◌||◌, not, max, nat_eq, nat_lt, Bool, List, [], ◌∷◌, length, map, filter, slice_index, codes, Option, Some, None, Result, Ok, Err, if◌then◌else◌}
use Rattle.std.specs.List.{find, range_with_len, starts_with}
use Rattle.nor_sfdp.specs.declared.fault.SfdpFault.{SfdpFault}
use Rattle.nor_sfdp.specs.declared.fault.SfdpFault.TheVariants.{Signature, Truncated, Major}
use Rattle.nor_sfdp.specs.declared.header.Header.{Header}

-- `SFDP`
abbrev pub is_signed : List ℕ → Bool
is_signed bytes = starts_with nat_eq bytes (codes "SFDP")

-- byte 6: the number of parameter headers, minus one
unfoldable pub header_count_of : List ℕ → Result ℕ SfdpFault
header_count_of bytes =
    if nat_lt (length bytes) 4 || not (is_signed bytes) then Err Signature
    else (if nat_lt (length bytes) 8 || nat_lt (length bytes) (8 + 8 * (slice_index bytes 6 + 1)) then Err Truncated
    else (if not (slice_index bytes 5 == 1) then Err Major
    else Ok (slice_index bytes 6 + 1)))

-- the parameter header with an index, which counts from 0: ID, revision and length of a table, and where it begins
unfoldable pub header_at : List ℕ → ℕ → Header
header_at bytes i =
    let at = 8 + 8 * i in
    record {
      id = slice_index bytes at + 256 * slice_index bytes (at + 7);
      minor = slice_index bytes (at + 1);
      major = slice_index bytes (at + 2);
      dwords = slice_index bytes (at + 3);
      address = slice_index bytes (at + 4) + 256 * slice_index bytes (at + 5) + 65536 * slice_index bytes (at + 6);
    }

abbrev pub headers_of : List ℕ → ℕ → List Header
headers_of bytes count = map (header_at bytes) (range_with_len 0 count)

-- a header of the ID whose table has major revision 1
abbrev pub is_header_of : ℕ → Header → Bool
is_header_of id header = (header.id == id) && (header.major == 1)

abbrev pub greatest_minor : List Header → ℕ
greatest_minor [] = 0
greatest_minor (header ∷ headers) = max header.minor (greatest_minor headers)

-- the first header with the greatest minor revision
abbrev pub first_newest : List Header → Option Header
first_newest headers = find (λ header. header.minor == greatest_minor headers) headers

-- the header taken for an ID
abbrev pub newest : ℕ → List Header → Option Header
newest id headers = first_newest (filter (is_header_of id) headers)

-- the later of two headers where its minor revision is greater
abbrev pub newer : Option Header → Header → Header
newer None later = later
newer (Some earlier) later = if nat_lt earlier.minor later.minor then later else earlier
