-- The image's runs over a part of a chip (this project's).
use Rattle.std.specs.Prelude.{◌≡◌, ◌⊎◌, ℕ, ◌+◌, ◌^◌, ◌<◌, ◌≤◌, Bool, true, false, List, length, slice_get, slice_index, Option, None}
use Rattle.nor_base.specs.Target.{target_byte}

-- an image over a part of a chip: place k is the chip's address at + k, which takes the image's byte at base + (at + k)
pub record Overlay : Type 0 where
  pub image : ℕ → Option ℕ
  pub base : ℕ
  pub at : ℕ

abbrev pub overlay : (ℕ → Option ℕ) → ℕ → ℕ → Overlay
overlay image base at = record { image = image; base = base; at = at }

abbrev pub given : Overlay → ℕ → Option ℕ
given o k = o.image (o.base + (o.at + k))

-- the run is the image's next for the places from `done` on and below `len`
pub record IsNextRun (o : Overlay) (done len begin : ℕ) (run : List ℕ) : Type 0 where
  pub past : done ≤ begin
  pub some : 0 < length run
  pub within : begin + length run ≤ len
  pub fits : o.base + (o.at + (begin + length run)) ≤ 2 ^ 32
  pub none_before : (k : ℕ) → done ≤ k → k < begin → given o k ≡ None
  pub bytes : (i : ℕ) → i < length run → given o (begin + i) ≡ slice_get run i

-- the image gives none of these places a byte below 2^32
abbrev pub HasNoRun : Overlay → ℕ → ℕ → Type 0
HasNoRun o done len = (k : ℕ) → done ≤ k → k < len → o.base + (o.at + k) < 2 ^ 32 → given o k ≡ None

-- the places from the first number on and below the second are the next chosen from `done` on and below `len`, where place 0 is the
-- chip's address `at`
pub record IsNextChosen (is_chosen : ℕ → Bool) (at done len : ℕ) (places : ℕ × ℕ) : Type 0 where
  pub past : done ≤ places.0
  pub some : places.0 < places.1
  pub within : places.1 ≤ len
  pub none_before : (k : ℕ) → done ≤ k → k < places.0 → is_chosen (at + k) ≡ false
  pub each : (k : ℕ) → places.0 ≤ k → k < places.1 → is_chosen (at + k) ≡ true

-- none of these places is chosen
abbrev pub HasNoChosen : (ℕ → Bool) → ℕ → ℕ → ℕ → Type 0
HasNoChosen is_chosen at done len = (k : ℕ) → done ≤ k → k < len → is_chosen (at + k) ≡ false

-- new is old with the image's bytes at the places from `begin` on and below `end`
pub record IsLaid (o : Overlay) (old new : List ℕ) (begin end : ℕ) : Type 0 where
  pub outside : (k : ℕ) → (k < begin) ⊎ (end ≤ k) → slice_index new k ≡ slice_index old k
  pub inside : (k : ℕ) → begin ≤ k → k < end → slice_index new k ≡ target_byte o.image o.base (λ _. true) (o.at + k) (slice_index old k)
