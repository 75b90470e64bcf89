-- The memory image that records give.
-- Intel's "Hexadecimal Object File Format Specification", revision A, "Extended Linear Address Record", "Extended Segment Address Record" and "Data Record". That the linear address 0 is the base before any such record is our own rule.
use Rattle.std.specs.Prelude.{◌≡◌, ℕ, ◌+◌, ◌<◌, ◌≤◌, ◌*◌, ◌%◌, ◌^◌, ◌==◌, ◌||◌, nat_eq, Bool, if◌then◌else◌, List, length, map, reverse, take, slice_get, slice_index, Option, Some, None}
use Rattle.std.specs.List.{find}
use Rattle.std.specs.Option.{option_map_or}
use Rattle.std.specs.Map.{lookup}
use Rattle.nor_hex.specs.declared.base.Base.{Base}
use Rattle.nor_hex.specs.declared.base.Base.TheVariants.{Linear, Segment}
use Rattle.nor_hex.specs.Record.{Record}

-- the record is an extended segment address or an extended linear address
abbrev pub is_base : Record → Bool
is_base line = (line.kind == 2) || (line.kind == 4)

-- the address in such a record
abbrev pub base_in : Record → Base
base_in line =
    let address = slice_index line.bytes 0 * 256 + slice_index line.bytes 1 in
    if line.kind == 2 then Segment address else Linear address

-- the base that rules after some records: that of the last such record, and the linear address 0 where there is none
abbrev pub base_after : List Record → Base
base_after earlier = option_map_or base_in (find is_base (reverse earlier)) (Linear 0)

-- where the data byte at this offset from a base lies: a segment wraps at 64 KiB, and linear addresses at 2^32
abbrev pub address_of : Base → ℕ → ℕ
address_of (Linear upper) offset = (upper * 65536 + offset) % 2 ^ 32
address_of (Segment paragraph) offset = paragraph * 16 + offset % 65536

-- the data record lays the byte at the address, where the base rules
pub record Lays (base : Base) (line : Record) (address byte : ℕ) : Type 0 where
  pub is_data : line.kind ≡ 0
  pub index : ℕ
  pub byte_is : slice_get line.bytes index ≡ Some byte
  pub address_is : address_of base (line.offset + index) ≡ address

-- some data record among these puts the byte at the address
pub record Puts (records : List Record) (address byte : ℕ) : Type 0 where
  pub place : ℕ
  pub line : Record
  pub here : slice_get records place ≡ Some line
  pub lays : Lays (base_after (take place records)) line address byte

-- an image is the list of its addresses with their bytes, in rising order of the addresses
abbrev pub Pairs : Type 0
Pairs = List (ℕ × ℕ)

abbrev pub addresses : Pairs → List ℕ
addresses image = map (λ pair. pair.0) image

-- the image as a function of the address
abbrev pub byte_at : Pairs → ℕ → Option ℕ
byte_at image address = lookup (nat_eq address) image

-- what the image gives are bytes
abbrev pub GivesBytes : Pairs → Type 0
GivesBytes image = (address byte : ℕ) → byte_at image address ≡ Some byte → byte < 256

-- no address from this one on has a byte
abbrev pub HasNoneFrom : Pairs → ℕ → Type 0
HasNoneFrom image from = (address : ℕ) → from ≤ address → byte_at image address ≡ None

-- the run is the image's from its lowest address at or past `from`, which is `at`, to the next address that has no byte, or to FFFFFFFFh
pub record IsRunFrom (image : Pairs) (from at : ℕ) (run : List ℕ) : Type 0 where
  pub past : from ≤ at
  pub some : 0 < length run
  pub fits : at + length run ≤ 2 ^ 32
  pub none_before : (address : ℕ) → from ≤ address → address < at → byte_at image address ≡ None
  pub bytes : (i : ℕ) → i < length run → byte_at image (at + i) ≡ slice_get run i
  pub none_after : byte_at image (at + length run) ≡ None
