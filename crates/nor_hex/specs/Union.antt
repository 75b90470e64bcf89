-- Images laid together (this project's).
use Rattle.std.specs.Prelude.{◌≡◌, ◌≢◌, ◌⊎◌, ⊤, ℕ, ◌<◌, List, Some}
use Rattle.std.specs.List.Sorted.{IsStrictlyIncreasing}
use Rattle.nor_hex.specs.Image.{Pairs, addresses, byte_at}
use Rattle.nor_hex.specs.Pieces.{LaysRun}
use Rattle.nor_hex.specs.declared.union.UnionFault.{UnionFault}
use Rattle.nor_hex.specs.declared.union.UnionFault.TheVariants.{Conflict, Memory}

-- the image gives an address a byte exactly where one of two images does
pub record IsUnion (one other image : Pairs) : Type 0 where
  pub rising : IsStrictlyIncreasing (addresses image)
  pub given : (address byte : ℕ) → byte_at image address ≡ Some byte → (byte_at one address ≡ Some byte) ⊎ (byte_at other address ≡ Some byte)
  pub of_one : (address byte : ℕ) → byte_at one address ≡ Some byte → byte_at image address ≡ Some byte
  pub of_other : (address byte : ℕ) → byte_at other address ≡ Some byte → byte_at image address ≡ Some byte

-- no address is given two different bytes
abbrev pub AreAlike : Pairs → Pairs → Type 0
AreAlike one other = (address first second : ℕ) → byte_at one address ≡ Some first → byte_at other address ≡ Some second → first ≡ second

-- two images give this address different bytes, and it is the lowest of these
pub record IsFirstClash (one other : Pairs) (at : ℕ) : Type 0 where
  pub first : ℕ
  pub second : ℕ
  pub first_is : byte_at one at ≡ Some first
  pub second_is : byte_at other at ≡ Some second
  pub differ : first ≢ second
  pub before : (address a b : ℕ) → address < at → byte_at one address ≡ Some a → byte_at other address ≡ Some b → a ≡ b

-- why two images have no union; of memory nothing is said
abbrev pub ClashesAt : Pairs → Pairs → UnionFault → Type 0
ClashesAt one other (Conflict at) = IsFirstClash one other at
ClashesAt one other Memory = ⊤

-- the image gives just these bytes, from an address on
pub record HasJust (at : ℕ) (bytes : List ℕ) (image : Pairs) : Type 0 where
  pub rising : IsStrictlyIncreasing (addresses image)
  pub given : (address byte : ℕ) → byte_at image address ≡ Some byte → LaysRun at bytes address byte
  pub laid : (address byte : ℕ) → LaysRun at bytes address byte → byte_at image address ≡ Some byte

-- new gives what old does, and what the image gives
pub record AddsImage (old new : ℕ → ℕ → Type 0) (image : Pairs) : Type 0 where
  pub given : (address byte : ℕ) → new address byte → old address byte ⊎ (byte_at image address ≡ Some byte)
  pub kept : (address byte : ℕ) → old address byte → new address byte
  pub laid : (address byte : ℕ) → byte_at image address ≡ Some byte → new address byte
