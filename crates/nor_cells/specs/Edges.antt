-- The first and the last byte of a content that aren't blank (this project's; an erased byte is FFh: W25Q256JV datasheet).
use Rattle.std.specs.Prelude.{◌≡◌, ◌≢◌, ◌⊎◌, ℕ, ◌+◌, ◌<◌, ◌≤◌, List, length, slice_index}

-- the bytes below an address are blank
abbrev pub IsFrontBlank : List ℕ → ℕ → Type 0
IsFrontBlank content end = (b : ℕ) → b < end → slice_index content b ≡ 0xFF

-- those from an address on are
abbrev pub IsBackBlank : List ℕ → ℕ → Type 0
IsBackBlank content start = (b : ℕ) → start ≤ b → b < length content → slice_index content b ≡ 0xFF

-- all of them are
abbrev pub IsBlank : List ℕ → Type 0
IsBlank content = IsFrontBlank content (length content)

-- the lowest address whose byte isn't FFh; the highest
pub record IsFirstHeld (content : List ℕ) (a : ℕ) : Type 0 where
  pub within : a < length content
  pub held : slice_index content a ≢ 0xFF
  pub blank : IsFrontBlank content a

pub record IsLastHeld (content : List ℕ) (a : ℕ) : Type 0 where
  pub within : a < length content
  pub held : slice_index content a ≢ 0xFF
  pub blank : IsBackBlank content (a + 1)

abbrev pub IsEdge : List ℕ → ℕ → Type 0
IsEdge content a = IsFirstHeld content a ⊎ IsLastHeld content a
