-- The records that give bytes at gapless addresses, and their text. How many bytes a record has, and which segments begin with their address, are our own rules.
use Rattle.std.specs.Prelude.{ℕ, ◌+◌, ◌-◌, ◌*◌, ◌/◌, ◌%◌, List, [], ◌∷◌, ◌++◌, length, take, drop, map, flat_map}
use Rattle.std.specs.List.{range_with_len}
use Rattle.nor_hex.specs.WrittenRecords.{Entry, linear, of_data, end_record, record_text}

-- data record number n of these, each of 32 bytes
abbrev pub row : ℕ → List ℕ → ℕ → Entry
row offset bytes n = of_data (offset + 32 * n) (take 32 (drop (32 * n) bytes))

-- as many of these as there are bytes for; the last may have fewer than 32
unfoldable pub rows : ℕ → List ℕ → List Entry
rows offset bytes = map (row offset bytes) (range_with_len 0 ((length bytes + 31) / 32))

-- the records of bytes that are in one segment of 64 KiB, from this address on: the upper half of the address, and the data. Where no bytes are, none
abbrev pub part_records : ℕ → List ℕ → List Entry
part_records at [] = []
part_records at (byte ∷ rest) = linear (at / 65536) ∷ rows (at % 65536) (byte ∷ rest)

-- of bytes from an address on, those that are in the segment of this upper half
abbrev pub bytes_in : ℕ → List ℕ → ℕ → List ℕ
bytes_in at bytes upper = drop (upper * 65536 - at) (take ((upper + 1) * 65536 - at) bytes)

-- the records of these: they begin at the segment's first address, or later at that of all bytes
abbrev pub segment_records : ℕ → List ℕ → ℕ → List Entry
segment_records at bytes upper = part_records (at + (upper * 65536 - at)) (bytes_in at bytes upper)

-- the records of the first n segments, in their order
unfoldable pub first_segments : ℕ → ℕ → List ℕ → List Entry
first_segments n at bytes = flat_map (segment_records at bytes) (range_with_len 0 n)

-- the records of bytes from an address on, up to FFFFFFFFh
abbrev pub image_records : ℕ → List ℕ → List Entry
image_records at bytes = first_segments 65536 at bytes

abbrev pub text_of : List Entry → List ℕ
text_of entries = flat_map record_text entries

-- the whole text: these records, and the end record last
abbrev pub hex_text : ℕ → List ℕ → List ℕ
hex_text at bytes = text_of (image_records at bytes ++ end_record ∷ [])
