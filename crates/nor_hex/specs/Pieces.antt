-- The bytes given so far, as pieces of rising addresses, each found by its highest address.
use Rattle.std.specs.Prelude.{◌≡◌, ◌≢◌, ◌⊎◌, ℕ, ◌+◌, ◌-◌, ◌^◌, ◌≤◌, ◌<◌, List, length, slice_get, Option, Some, None}
use Rattle.nor_hex.specs.declared.pieces.Piece.{Piece}

-- the pieces give the address the byte
pub record Gives (at_last : ℕ → Option Piece) (bytes : List ℕ) (address byte : ℕ) : Type 0 where
  pub last : ℕ
  pub piece : Piece
  pub here : at_last last ≡ Some piece
  pub from : piece.first ≤ address
  pub to : address ≤ last
  pub byte_is : slice_get bytes (piece.place + (address - piece.first)) ≡ Some byte

-- each piece has its bytes, and no two overlap
pub record IsPieces (at_last : ℕ → Option Piece) (bytes : List ℕ) : Type 0 where
  pub rises : (last : ℕ) (piece : Piece) → at_last last ≡ Some piece → piece.first ≤ last
  pub fits : (last : ℕ) (piece : Piece) → at_last last ≡ Some piece → last < 2 ^ 32
  pub inside : (last : ℕ) (piece : Piece) → at_last last ≡ Some piece → piece.place + (last - piece.first) < length bytes
  pub apart : (last : ℕ) (piece : Piece) (later : ℕ) (next : Piece) → at_last last ≡ Some piece → at_last later ≡ Some next → last < later → last < next.first

-- no piece has one of n addresses from this one on
abbrev pub IsFree : (ℕ → Option Piece) → ℕ → ℕ → Type 0
IsFree at_last address n = (last : ℕ) (piece : Piece) → at_last last ≡ Some piece → (last < address) ⊎ (address + n ≤ piece.first)

-- the piece is the first that ends at the address or past it
pub record IsNext (at_last : ℕ → Option Piece) (address last : ℕ) (piece : Piece) : Type 0 where
  pub found : at_last last ≡ Some piece
  pub past : address ≤ last
  pub least : (other : ℕ) (one : Piece) → at_last other ≡ Some one → address ≤ other → last ≤ other

-- no piece ends at the address or past it
abbrev pub HasNoNext : (ℕ → Option Piece) → ℕ → Type 0
HasNoNext at_last address = (other : ℕ) (one : Piece) → at_last other ≡ Some one → other < address

-- the run of bytes from the address on lays the byte there
pub record LaysRun (address : ℕ) (bytes : List ℕ) (at byte : ℕ) : Type 0 where
  pub index : ℕ
  pub byte_is : slice_get bytes index ≡ Some byte
  pub at_is : address + index ≡ at

-- new gives what old does, and what the run lays
pub record AddsRun (old new : ℕ → ℕ → Type 0) (address : ℕ) (bytes : List ℕ) : Type 0 where
  pub given : (at byte : ℕ) → new at byte → old at byte ⊎ LaysRun address bytes at byte
  pub kept : (at byte : ℕ) → old at byte → new at byte
  pub laid : (at byte : ℕ) → LaysRun address bytes at byte → new at byte

-- the run lays a byte where another one is given
pub record ClashesRun (old : ℕ → ℕ → Type 0) (address : ℕ) (bytes : List ℕ) : Type 0 where
  pub at : ℕ
  pub first : ℕ
  pub second : ℕ
  pub gives_first : old at first
  pub lays_second : LaysRun address bytes at second
  pub differ : first ≢ second

-- among the first n places of two lists, there is one with different bytes
pub record DiffersIn (given bytes : List ℕ) (n : ℕ) : Type 0 where
  pub index : ℕ
  pub first : ℕ
  pub second : ℕ
  pub below : index < n
  pub first_is : slice_get given index ≡ Some first
  pub second_is : slice_get bytes index ≡ Some second
  pub differ : first ≢ second

-- new is old without the piece that the address continues, if that one's bytes are the last of `len` bytes; the piece is that one, or an empty one there
pub record Opens (old new : ℕ → Option Piece) (len address : ℕ) (piece : Piece) : Type 0 where
  pub before : piece.first ≤ address
  pub place_is : piece.place + (address - piece.first) ≡ len
  pub given : (last : ℕ) (one : Piece) → new last ≡ Some one → old last ≡ Some one
  pub kept : (last : ℕ) (one : Piece) → old last ≡ Some one → (new last ≡ Some one) ⊎ ((last + 1 ≡ address) × (one ≡ piece))
  pub was : piece.first < address → (old (address - 1) ≡ Some piece) × (new (address - 1) ≡ None)
