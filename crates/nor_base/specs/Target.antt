-- The byte that each address of a chip must hold in the end (this project's).
use Rattle.std.specs.Prelude.{ℕ, Bool, ◌+◌, ◌-◌, ◌^◌, nat_lt, nat_le, not, ◌&&◌, if◌then◌else◌, List, Option, unwrap_or}
use Rattle.nor_base.specs.Array.{each}

-- at a chosen address that the image gives, from `base` on, the image's byte; at every other the one that was there
abbrev pub target_byte : (ℕ → Option ℕ) → ℕ → (ℕ → Bool) → ℕ → ℕ → ℕ
target_byte image base is_chosen address old =
    if is_chosen address && nat_lt (base + address) (2 ^ 32) then unwrap_or (image (base + address)) old else old

-- the target of a content: one byte for each address of the chip
unfoldable pub target : (ℕ → Option ℕ) → ℕ → (ℕ → Bool) → List ℕ → List ℕ
target image base is_chosen content = each (target_byte image base is_chosen) content

-- an address of the image that is that of no chosen address of a chip of this size
abbrev pub is_ignored : ℕ → (ℕ → Bool) → ℕ → ℕ → Bool
is_ignored base is_chosen size at = not (nat_le base at && (nat_lt (at - base) size && is_chosen (at - base)))
