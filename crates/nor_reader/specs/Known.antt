-- How far SFDP tables reach, and a chip's read and compared (JESD216: the header, the parameter headers; Read SFDP 5Ah, of three
-- address bytes, the highest first, and eight dummy clocks).
use Rattle.std.specs.Prelude.{◌≡◌, ◌↔◌, ◌<◌, ◌≤◌, ◌+◌, ◌*◌, ◌/◌, ◌%◌, ℕ, max, min, nat_lt, if◌then◌else◌, List, [], ◌∷◌, length, map, slice_index, Option, Result, Ok, Err}
use Rattle.std.specs.List.{All, range_with_len}
use Rattle.nor_base.specs.Device.{Ahead}
use Rattle.nor_sfdp.specs.Headers.{header_at}
use Rattle.nor_base.specs.Wire.{Wire, wire}
use Rattle.nor_serprog.specs.declared.fault.Fault.{Fault}
use Rattle.nor_serprog.specs.declared.limits.Limits.{Limits}
use Rattle.nor_serprog.specs.Protocol.{request, answer}
use Rattle.nor_serprog.specs.Exchange.{Talked, Answers, Asks}
use Rattle.nor_reader.specs.declared.difference.Difference.{Difference}
use Rattle.nor_reader.specs.declared.difference.Mismatch.{Mismatch}
use Rattle.nor_reader.specs.declared.difference.Mismatch.TheVariants.{Exchange, Differs}
use Rattle.nor_reader.specs.Pieces.{Piece, LiesInOne, AreInOrder, bytes_in, HasReadPieces}
use Rattle.nor_reader.specs.Compared.{IsFirstDifference}

-- byte 6 of the header, NPH: the number of parameter headers, minus one
abbrev pub header_count : List ℕ → ℕ
header_count bytes = slice_index bytes 6 + 1

-- a table ends four bytes a DWORD after the address that its parameter header points at
abbrev pub table_end : List ℕ → ℕ → ℕ
table_end bytes i = (header_at bytes i).address + 4 * (header_at bytes i).dwords

-- where the header and the parameter headers, of 8 bytes each, end, and where each table does
abbrev pub ends : List ℕ → List ℕ
ends bytes = (8 + 8 * header_count bytes) ∷ map (table_end bytes) (range_with_len 0 (header_count bytes))

abbrev pub greatest : List ℕ → ℕ
greatest [] = 0
greatest (n ∷ ns) = max n (greatest ns)

-- how far the headers reach in these bytes; 0 where there is no whole header
abbrev pub tables_reach : List ℕ → ℕ
tables_reach bytes = if nat_lt (length bytes) 8 then 0 else min (length bytes) (greatest (ends bytes))

-- the instruction that reads from an address on
abbrev pub read_sfdp : ℕ → List ℕ
read_sfdp address = 0x5A ∷ address / 65536 % 256 ∷ address / 256 % 256 ∷ address % 256 ∷ 0x00 ∷ []

-- a read of a piece
abbrev pub read_of : Piece → List ℕ
read_of p = request (read_sfdp p.start) p.len

-- most bytes of a piece: what the device can give, and no more than 256
abbrev pub most_of : Limits → ℕ
most_of limits = min limits.asked 256

-- the tables were read up to an address, piece by piece, and are as they are wanted
pub record HasComparedTo (before after : Wire) (limits : Limits) (tables : List ℕ) (high : ℕ) : Type 0 where
  pub pieces : List Piece
  pub in_order : AreInOrder 0 high pieces
  pub just : (a : ℕ) → LiesInOne pieces a ↔ (a < high)
  pub few : All (λ p. p.len ≤ most_of limits) pieces
  pub read : HasReadPieces before after read_of tables pieces

-- the tables before this piece were, and it is the next one
pub record HasReached (old new : Wire) (limits : Limits) (tables : List ℕ) (last : Piece) : Type 0 where
  pub before : HasComparedTo old new limits tables last.start
  pub some : 0 < last.len
  pub few : last.len ≤ most_of limits
  pub within : last.start + last.len ≤ length tables

-- the exchange of a piece ended so
pub record StopsPiece (before after : Wire) (p : Piece) (why : Fault) : Type 0 where
  pub got : List ℕ
  pub long : length got ≡ p.len
  pub stop : Asks before after (Err why) (read_of p) (Answers before.ahead after.ahead (Err why) got)

-- its answer came whole, and this is the first byte of it that isn't the one that was wanted
pub record HasAnother (before after : Wire) (p : Piece) (want : List ℕ) (d : Difference) : Type 0 where
  pub got : List ℕ
  pub long : length got ≡ p.len
  pub talked : Talked before after (read_of p) (answer got)
  pub place : ℕ
  pub first : IsFirstDifference got want place
  pub address : d.address ≡ p.start + place
  pub chip : d.chip ≡ slice_index got place
  pub wanted : d.want ≡ slice_index want place

-- those before a piece were compared, and the exchange of it ended so
pub record StopsComparing (before after : Wire) (limits : Limits) (tables : List ℕ) (why : Fault) : Type 0 where
  pub last : Piece
  pub held : Option (List ℕ)
  pub ahead : Ahead
  pub reached : HasReached before (wire held ahead) limits tables last
  pub stop : StopsPiece (wire held ahead) after last why

-- those before a piece were compared, and this is the first difference in it
pub record FindsAnother (before after : Wire) (limits : Limits) (tables : List ℕ) (d : Difference) : Type 0 where
  pub last : Piece
  pub held : Option (List ℕ)
  pub ahead : Ahead
  pub reached : HasReached before (wire held ahead) limits tables last
  pub another : HasAnother (wire held ahead) after last (bytes_in tables last) d

-- what a comparison of the tables says
abbrev pub Compares : Wire → Wire → Result (Unit {0}) Mismatch → Limits → List ℕ → Type 0
Compares before after (Ok u) limits tables =
    HasComparedTo before after limits tables (length tables)
Compares before after (Err (Exchange why)) limits tables =
    StopsComparing before after limits tables why
Compares before after (Err (Differs d)) limits tables =
    FindsAnother before after limits tables d

-- the same of one piece, from this address on
abbrev pub piece_at : ℕ → List ℕ → Piece
piece_at address want = record { start = address; len = length want }

abbrev pub ComparesPiece : Wire → Wire → Result (Unit {0}) Mismatch → ℕ → List ℕ → Type 0
ComparesPiece before after (Ok u) address want =
    Talked before after (read_of (piece_at address want)) (answer want)
ComparesPiece before after (Err (Exchange why)) address want =
    StopsPiece before after (piece_at address want) why
ComparesPiece before after (Err (Differs d)) address want =
    HasAnother before after (piece_at address want) want d
