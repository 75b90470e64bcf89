-- Bytes of a chip read piece by piece (the exchanges are the Serial Flasher Protocol's).
use Rattle.std.specs.Prelude.{◌⊎◌, ℕ, ◌+◌, ◌<◌, ◌≤◌, List, [], ◌∷◌, flat_map}
use Rattle.std.specs.List.{slice_range}
use Rattle.nor_base.specs.Wire.{Wire}
use Rattle.nor_serprog.specs.Exchange.{Talked}
use Rattle.nor_serprog.specs.Protocol.{answer}

-- so many addresses from one on
pub record Piece : Type 0 where
  pub start : ℕ
  pub len : ℕ

abbrev pub LiesIn : Piece → ℕ → Type 0
LiesIn p a = (p.start ≤ a) × (a < p.start + p.len)

-- the address lies in one of the pieces
abbrev pub LiesInOne : List Piece → ℕ → Type 0
LiesInOne [] a = ⊥
LiesInOne (p ∷ ps) a = LiesIn p a ⊎ LiesInOne ps a

-- none is empty, and they follow one another from one address on up to another
abbrev pub AreInOrder : ℕ → ℕ → List Piece → Type 0
AreInOrder low high [] = low ≤ high
AreInOrder low high (p ∷ ps) = (low ≤ p.start) × (0 < p.len) × AreInOrder (p.start + p.len) high ps

-- the bytes of a content in a piece
abbrev pub bytes_in : List ℕ → Piece → List ℕ
bytes_in content p = slice_range content p.start (p.start + p.len)

-- the device was asked for just these pieces, one after the other, each by its own request, and gave just what the content has there
abbrev pub HasReadPieces : Wire → Wire → (Piece → List ℕ) → List ℕ → List Piece → Type 0
HasReadPieces before after read_of content pieces =
    Talked before after (flat_map read_of pieces) (flat_map (λ p. answer (bytes_in content p)) pieces)
