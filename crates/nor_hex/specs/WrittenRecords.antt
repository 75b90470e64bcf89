-- A record of Intel HEX as a line of a text.
-- Intel's "Hexadecimal Object File Format Specification", revision A, "General Record Format", "Extended Linear Address Record", "Data Record" and "End of File Record".
use Rattle.std.specs.Prelude.{ℕ, ◌-◌, ◌/◌, ◌%◌, List, [], ◌∷◌, ◌++◌, length, sum}
use Rattle.hex.specs.Hex.{encode_upper}
use Rattle.nor_base.specs.Script.{closed}

-- what a record says
pub record Entry : Type 0 where
  pub kind : ℕ
  pub offset : ℕ
  pub bytes : List ℕ

-- its bytes before the checksum: the record length, the load offset with its high byte first, the record type, the data
abbrev pub fields : Entry → List ℕ
fields entry = length entry.bytes ∷ entry.offset / 256 ∷ entry.offset % 256 ∷ entry.kind ∷ entry.bytes

-- with the checksum all bytes of a record sum to 0 modulo 256
abbrev pub checksum : Entry → ℕ
checksum entry = (256 - sum (fields entry) % 256) % 256

abbrev pub record_bytes : Entry → List ℕ
record_bytes entry = fields entry ++ checksum entry ∷ []

-- a colon, and each byte as two upper-case digits
abbrev pub record_line : Entry → List ℕ
record_line entry = 0x3A ∷ encode_upper (record_bytes entry)

-- the record in a text: its line, ended by a line feed
unfoldable pub record_text : Entry → List ℕ
record_text entry = closed (record_line entry)

-- an extended linear address record: the upper half of the addresses, its high byte first
abbrev pub linear : ℕ → Entry
linear upper = record { kind = 4; offset = 0; bytes = upper / 256 ∷ upper % 256 ∷ [] }

-- a data record
abbrev pub of_data : ℕ → List ℕ → Entry
of_data offset bytes = record { kind = 0; offset = offset; bytes = bytes }

-- the end record
abbrev pub end_record : Entry
end_record = record { kind = 1; offset = 0; bytes = [] }
