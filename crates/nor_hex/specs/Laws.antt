-- What a written text is to its reader, and that parts join.
use Rattle.std.specs.Prelude.{◌≡◌, ◌↔◌, ◌⊎◌, ℕ, ◌+◌, ◌-◌, ◌≤◌, ◌%◌, ◌^◌, true, List, [], ◌++◌, length, slice_get, Some}
use Rattle.nor_base.specs.Array.{are_bytes}
use Rattle.nor_hex.specs.Faults.{IsImage}
use Rattle.nor_hex.specs.Image.{Pairs, byte_at}
use Rattle.nor_hex.specs.WrittenSegments.{image_records, hex_text}

-- the image gives just these bytes, from this address on
abbrev pub GivesJust : ℕ → List ℕ → Pairs → Type 0
GivesJust at bytes image =
    (address byte : ℕ) → (byte_at image address ≡ Some byte) ↔ ((at ≤ address) × (slice_get bytes (address - at) ≡ Some byte))

-- the records of bytes in two parts are those of the first and those of the second, where the second begins a segment or the first is empty
abbrev pub PartsJoin : Type 0
PartsJoin = (at : ℕ) (front rest : List ℕ) → (length front ≡ 0) ⊎ ((at + length front) % 65536 ≡ 0)
    → image_records at (front ++ rest) ≡ image_records at front ++ image_records (at + length front) rest

-- no bytes have no records
abbrev pub NoneHaveNone : Type 0
NoneHaveNone = (at : ℕ) → image_records at [] ≡ []

-- whatever image a written text has, it gives just its bytes
abbrev pub WrittenGives : Type 0
WrittenGives = (at : ℕ) (bytes : List ℕ) (image : Pairs) → are_bytes bytes ≡ true → at + length bytes ≤ 2 ^ 32
    → IsImage (hex_text at bytes) image → GivesJust at bytes image
