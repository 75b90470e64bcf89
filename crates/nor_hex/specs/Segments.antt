-- Bytes at rising addresses, as segments with gaps between them.
use Rattle.std.specs.Prelude.{◌≡◌, ℕ, ◌+◌, ◌-◌, ◌^◌, ◌<◌, ◌≤◌, List, [], ◌∷◌, ◌++◌, length, take, drop, slice_get, Option, Some}
use Rattle.std.specs.List.{enumerate_from}
use Rattle.nor_hex.specs.declared.pieces.Piece.{Piece}
use Rattle.nor_hex.specs.declared.segments.Segment.{Segment}
use Rattle.nor_hex.specs.Pieces.{IsNext, HasNoNext, AddsRun}
use Rattle.nor_hex.specs.Image.{Pairs}

-- how many bytes a segment has
abbrev pub size : Segment → ℕ
size segment = segment.last + 1 - segment.first

-- the bytes of a segment
abbrev pub bytes_of : Segment → List ℕ → List ℕ
bytes_of segment bytes = take (size segment) (drop segment.place bytes)

-- the addresses of the segments with their bytes
abbrev pub pairs_of : List Segment → List ℕ → Pairs
pairs_of [] bytes = []
pairs_of (segment ∷ later) bytes = enumerate_from segment.first (bytes_of segment bytes) ++ pairs_of later bytes

-- how many bytes all segments have
abbrev pub total : List Segment → ℕ
total [] = 0
total (segment ∷ later) = size segment + total later

-- some segment has the byte at the address
pub record Holds (segments : List Segment) (bytes : List ℕ) (address byte : ℕ) : Type 0 where
  pub index : ℕ
  pub segment : Segment
  pub here : slice_get segments index ≡ Some segment
  pub from : segment.first ≤ address
  pub to : address ≤ segment.last
  pub byte_is : slice_get bytes (segment.place + (address - segment.first)) ≡ Some byte

-- each segment has its bytes, and there is a gap before the next one
pub record IsSegments (segments : List Segment) (bytes : List ℕ) : Type 0 where
  pub rises : (i : ℕ) (segment : Segment) → slice_get segments i ≡ Some segment → segment.first ≤ segment.last
  pub fits : (i : ℕ) (segment : Segment) → slice_get segments i ≡ Some segment → segment.last < 2 ^ 32
  pub inside : (i : ℕ) (segment : Segment) → slice_get segments i ≡ Some segment → segment.place + (segment.last - segment.first) < length bytes
  pub apart : (i : ℕ) (segment : Segment) (j : ℕ) (later : Segment) → slice_get segments i ≡ Some segment → slice_get segments j ≡ Some later → i < j → segment.last + 1 < later.first

-- each segment ends below the address
abbrev pub AreBelow : ℕ → List Segment → Type 0
AreBelow address segments = (i : ℕ) (segment : Segment) → slice_get segments i ≡ Some segment → segment.last < address

-- the last segment's bytes are the last of this many
abbrev pub EndsAt : List Segment → ℕ → Type 0
EndsAt segments len = (before : List Segment) (segment : Segment) → segments ≡ before ++ segment ∷ [] → segment.place + size segment ≡ len

-- new segments over the bytes and a run behind them are the old ones over the bytes with the run past them
pub record IsJoined (old : List Segment) (bytes : List ℕ) (new : List Segment) (first : ℕ) (run : List ℕ) : Type 0 where
  pub right : IsSegments new (bytes ++ run)
  pub below : AreBelow (first + length run) new
  pub ends : EndsAt new (length (bytes ++ run))
  pub total_is : total new ≡ total old + length run
  pub added : AddsRun (Holds old bytes) (Holds new (bytes ++ run)) first run

-- both give each address the same byte
pub record SameBytes (old new : ℕ → ℕ → Type 0) : Type 0 where
  pub given : (address byte : ℕ) → new address byte → old address byte
  pub kept : (address byte : ℕ) → old address byte → new address byte

-- the segment is the only piece, and has all of `len` bytes
pub record IsOnly (at_last : ℕ → Option Piece) (len : ℕ) (segment : Segment) : Type 0 where
  pub piece : Piece
  pub next : IsNext at_last 0 segment.last piece
  pub none : HasNoNext at_last (segment.last + 1)
  pub first_is : segment.first ≡ piece.first
  pub piece_place : piece.place ≡ 0
  pub place_is : segment.place ≡ 0
  pub all : (segment.last - segment.first) + 1 ≡ len

-- the segment is the first that ends at the address or past it
pub record IsNextSegment (segments : List Segment) (from : ℕ) (segment : Segment) : Type 0 where
  pub index : ℕ
  pub here : slice_get segments index ≡ Some segment
  pub past : from ≤ segment.last
  pub before : (i : ℕ) (earlier : Segment) → slice_get segments i ≡ Some earlier → i < index → earlier.last < from

-- no segment has the address or a later one
abbrev pub HoldsNoneFrom : List Segment → List ℕ → ℕ → Type 0
HoldsNoneFrom segments bytes from = (address byte : ℕ) → from ≤ address → Holds segments bytes address byte → ⊥

-- the bytes from the first address at or past `from` on that has one, up to the end of its segment
pub record IsRunIn (segments : List Segment) (bytes : List ℕ) (from at : ℕ) (run : List ℕ) : Type 0 where
  pub past : from ≤ at
  pub some : 0 < length run
  pub fits : at + length run ≤ 2 ^ 32
  pub none : (address byte : ℕ) → from ≤ address → address < at → Holds segments bytes address byte → ⊥
  pub given : (i byte : ℕ) → slice_get run i ≡ Some byte → Holds segments bytes (at + i) byte
  pub ends : (byte : ℕ) → Holds segments bytes (at + length run) byte → ⊥

-- what is left of an iteration: each segment has its bytes, and the first of them has more than `done`
pub record HasLeft (segments : List Segment) (bytes : List ℕ) (done : ℕ) : Type 0 where
  pub rises : (i : ℕ) (segment : Segment) → slice_get segments i ≡ Some segment → segment.first ≤ segment.last
  pub fits : (i : ℕ) (segment : Segment) → slice_get segments i ≡ Some segment → segment.last < 2 ^ 32
  pub inside : (i : ℕ) (segment : Segment) → slice_get segments i ≡ Some segment → segment.place + (segment.last - segment.first) < length bytes
  pub more : (segment : Segment) → slice_get segments 0 ≡ Some segment → segment.first + done ≤ segment.last
  pub none : segments ≡ [] → done ≡ 0
