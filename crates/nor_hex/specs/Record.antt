-- A record of Intel HEX: a colon, and as pairs of hexadecimal digits the record length, the load offset, the record type, the data and the checksum.
-- Intel's "Hexadecimal Object File Format Specification", revision A, "General Record Format", and for the lengths the sections of the six record types. The order of the causes is our own.
use Rattle.std.specs.Prelude.{◌≡◌, ℕ, ◌+◌, ◌*◌, ◌/◌, ◌%◌, ◌≤◌, ◌++◌, ◌==◌, ◌&&◌, ◌||◌, nat_le, nat_lt, not, Bool, true, false, if◌then◌else◌, List, [], ◌∷◌, length, take, drop, slice_index, Result, Ok, Err, IsTrue, sum}
use Rattle.std.specs.List.{list_all}
use Rattle.std.specs.Option.{unwrap_or}
use Rattle.hex.specs.Hex.{hex_digit_value, is_hex_digit}
use Rattle.nor_hex.specs.declared.fault.HexFault.{HexFault}
use Rattle.nor_hex.specs.declared.fault.HexFault.TheVariants.{NoColon, BadDigit, BadLength, BadSum, BadType}

-- what a record says, and the number of its line
pub record Record : Type 0 where
  pub kind : ℕ
  pub offset : ℕ
  pub bytes : List ℕ
  pub line : ℕ

-- the value of a digit
abbrev pub digit : ℕ → ℕ
digit byte = unwrap_or (hex_digit_value byte) 0

-- the bytes that pairs of digits spell, the high half of each first
abbrev pub pair_bytes : List ℕ → List ℕ
pair_bytes (high ∷ low ∷ rest) = (digit high * 16 + digit low) ∷ pair_bytes rest
pair_bytes fewer = []

-- a record length is right for a record type: data of any length; no data in an end record; a segment or a linear address of two bytes, and a start address of four
abbrev pub fits_type : ℕ → ℕ → Bool
fits_type kind len =
    if kind == 1 then len == 0
    else if (kind == 2) || (kind == 4) then len == 2
    else if (kind == 3) || (kind == 5) then len == 4
    else true

-- the fields, by the bytes of the record
abbrev pub length_field : List ℕ → ℕ
length_field bytes = slice_index bytes 0

abbrev pub type_field : List ℕ → ℕ
type_field bytes = slice_index bytes 3

abbrev pub data_field : List ℕ → List ℕ
data_field bytes = take (length_field bytes) (drop 4 bytes)

-- the digits are those of the four fields before the data, of as many data bytes as the record length says, and of the checksum; and the length is right for the type
abbrev pub has_length : List ℕ → Bool
has_length digits =
    nat_le 10 (length digits) && (length digits == 10 + 2 * length_field (pair_bytes digits))
    && fits_type (type_field (pair_bytes digits)) (length_field (pair_bytes digits))

-- the checksum makes the sum of all bytes 0 modulo 256
abbrev pub has_sum : List ℕ → Bool
has_sum digits = sum (pair_bytes digits) % 256 == 0

-- the record of digits that have the right length, sum and type
abbrev pub fields : ℕ → List ℕ → Record
fields n bytes = record { kind = type_field bytes; offset = slice_index bytes 1 * 256 + slice_index bytes 2; bytes = data_field bytes; line = n }

-- the record that a trimmed line is, or the first cause for which it is none
unfoldable pub record_of : ℕ → List ℕ → Result Record HexFault
record_of n line =
    if not (slice_index line 0 == 58) then Err (NoColon n)
    else if not (list_all is_hex_digit (drop 1 line)) then Err (BadDigit n)
    else if not (has_length (drop 1 line)) then Err (BadLength n)
    else if not (has_sum (drop 1 line)) then Err (BadSum n)
    else if nat_lt 5 (type_field (pair_bytes (drop 1 line))) then Err (BadType n)
    else Ok (fields n (pair_bytes (drop 1 line)))

-- the trimmed line with this number is the record: a colon, and the digit pairs of the record length, the load offset, the record type, the data and the checksum. The record length is the number of data bytes and right for the type, the type is known, and all bytes sum to 0 modulo 256
pub record IsRecord (n : ℕ) (line : List ℕ) (this : Record) : Type 0 where
  pub digits : List ℕ
  pub high : ℕ
  pub low : ℕ
  pub checksum : ℕ
  pub colon : line ≡ 58 ∷ digits
  pub all_digits : list_all is_hex_digit digits ≡ true
  pub pairs : length digits ≡ 10 + 2 * length this.bytes
  pub spelled : pair_bytes digits ≡ length this.bytes ∷ high ∷ low ∷ this.kind ∷ (this.bytes ++ checksum ∷ [])
  pub offset_is : this.offset ≡ high * 256 + low
  pub fits : fits_type this.kind (length this.bytes) ≡ true
  pub known : this.kind ≤ 5
  pub sum_is : sum (pair_bytes digits) % 256 ≡ 0
  pub line_is : this.line ≡ n

-- what each record that was read keeps: its data are digits, two for a byte, and the bytes as many as its type asks
pub record IsComplete (kind : ℕ) (digits : List ℕ) : Type 0 where
  pub all_digits : IsTrue (list_all is_hex_digit digits)
  pub halves : length (pair_bytes digits) ≡ length digits / 2
  pub right_length : IsTrue (fits_type kind (length (pair_bytes digits)))
