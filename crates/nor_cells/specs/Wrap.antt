-- The bytes by which a smaller chip shows (this project's). A chip of fewer bytes, a power of two, looks at the low bits of an
-- address only (W25Q256JV datasheet: addresses A23 to A0, of which a smaller part of the family takes fewer): it gives the same
-- byte at two addresses that lie its size apart.
use Rattle.std.specs.Prelude.{◌≡◌, ◌≢◌, ◌⊎◌, ℕ, ◌+◌, ◌^◌, ◌<◌, ◌≤◌, List, length, slice_index}

-- the lowest address whose byte isn't the one so far on
pub record IsFirstUnlike (content : List ℕ) (far a : ℕ) : Type 0 where
  pub within : a + far < length content
  pub unlike : slice_index content a ≢ slice_index content (a + far)
  pub alike : (b : ℕ) → b < a → slice_index content b ≡ slice_index content (b + far)

-- each byte is the one so far on
abbrev pub Repeats : List ℕ → ℕ → Type 0
Repeats content far = (b : ℕ) → b + far < length content → slice_index content b ≡ slice_index content (b + far)

-- one of these two bytes: no chip of so many bytes gives both
abbrev pub TellsApart : List ℕ → ℕ → ℕ → Type 0
TellsApart content far a = IsFirstUnlike content far a ⊎ ((b : ℕ) × IsFirstUnlike content far b × (a ≡ b + far))

-- so, for some size of a smaller chip, 4 KiB the least
abbrev pub ShowsWrap : List ℕ → ℕ → Type 0
ShowsWrap content a = (k : ℕ) × (12 ≤ k) × TellsApart content (2 ^ k) a
