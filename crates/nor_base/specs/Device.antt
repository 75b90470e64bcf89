-- What is known of the bytes of a device (this project's).
use Rattle.std.specs.Prelude.{◌≡◌, ◌≤◌, ◌<◌, ◌-◌, ◌^◌, ℕ, zero, suc, ◌+◌, min, IsErr, List, [], ◌++◌, length, take, map, slice_index, Option, Some, None, Result, Ok, Err, ⊤}
use Rattle.std.specs.List.{range_with_len}
use Rattle.std.specs.Io.KnownBytes.{Appends}
use Rattle.nor_base.specs.declared.device.Failed.{Failed}

-- the bytes that a reader has ahead of it: it may not tell, and it may never end
pub data Ahead : Type 0 where
  Unknown : Ahead
  Finite : List ℕ → Ahead
  Endless : (ℕ → ℕ) → Ahead

-- a reader that had one thing ahead gave these bytes, and has the other ahead now
abbrev pub Gives : Ahead → List ℕ → Ahead → Type 0
Gives Unknown bytes after = ⊤
Gives (Finite before) bytes (Finite after) = before ≡ bytes ++ after
Gives (Endless before) bytes (Endless after) =
    ((k : ℕ) → k < length bytes → slice_index bytes k ≡ before k) × ((k : ℕ) → after k ≡ before (length bytes + k))
Gives before bytes after = ⊥

-- as far as the reader tells, nothing is ahead
abbrev pub IsAtEnd : Ahead → Type 0
IsAtEnd Unknown = ⊤
IsAtEnd (Finite bytes) = bytes ≡ []
IsAtEnd (Endless byte_at) = ⊥

-- the first so many bytes ahead, or all where there are fewer; None where the reader doesn't tell
abbrev pub first_of : ℕ → Ahead → Option (List ℕ)
first_of n Unknown = None
first_of n (Finite bytes) = Some (take n bytes)
first_of n (Endless byte_at) = Some (map byte_at (range_with_len 0 n))

-- what `take` does to what is ahead: at Ok it gave the bytes at the front of the buffer, none only at the end or where
-- there was no room; at Failed it gave none
abbrev pub Takes : Ahead → Ahead → Result ℕ Failed → List ℕ → Type 0
Takes before after (Ok n) buffer =
    (n ≤ length buffer) × Gives before (take n buffer) after × (n ≡ 0 → 0 < length buffer → IsAtEnd after)
Takes before after (Err failed) buffer = Gives before [] after

-- what `put` does to what is held: at Ok it took the first so many bytes, at least one; at Failed it took none
abbrev pub Puts : Option (List ℕ) → Option (List ℕ) → Result ℕ Failed → List ℕ → Type 0
Puts before after (Ok n) bytes = (0 < n) × (n ≤ length bytes) × Appends before after (take n bytes)
Puts before after (Err failed) bytes = Appends before after []

-- a count of failures once more: it stops at 2^64 - 1
unfoldable pub one_more : ℕ → ℕ
one_more n = min (n + 1) (2 ^ 64 - 1)

-- a count of failures, once more where there was one
abbrev pub raised : ℕ → ℕ → ℕ
raised before zero = before
raised before (suc k) = one_more before

-- a count of failures rises by one exactly where Failed is answered
abbrev pub Counts : {T : Type 0} → ℕ → ℕ → Result T Failed → Type 0
Counts before after (Ok x) = after ≡ before
Counts before after (Err failed) = after ≡ one_more before

-- a proper prefix of a byte string was taken
abbrev pub Cuts : Option (List ℕ) → Option (List ℕ) → List ℕ → Type 0
Cuts before after bytes = (n : ℕ) × (n < length bytes) × Appends before after (take n bytes)

-- all of a byte string was taken, or, at a fault, a proper prefix
abbrev pub Writes : {T F : Type 0} → Option (List ℕ) → Option (List ℕ) → Result T F → List ℕ → Type 0
Writes before after (Ok x) bytes = Appends before after bytes
Writes before after (Err fault) bytes = Cuts before after bytes

-- a buffer was filled as far as the reader had bytes; at Failed with a proper prefix of what it holds
abbrev pub Fills : Ahead → Ahead → Result ℕ Failed → List ℕ → Type 0
Fills before after (Ok n) buffer =
    (n ≤ length buffer) × Gives before (take n buffer) after × (n < length buffer → IsAtEnd after)
Fills before after (Err failed) buffer = (n : ℕ) × (n < length buffer) × Gives before (take n buffer) after

-- what a reader of known or unknown bytes has ahead
abbrev pub ahead_of : Option (List ℕ) → Ahead
ahead_of None = Unknown
ahead_of (Some bytes) = Finite bytes

-- what a standard write of so many bytes is to a device: a failure where it took none
abbrev pub CountsWrite : ℕ → ℕ → ℕ → Result ℕ Failed → Type 0
CountsWrite before after zero result = IsErr result × (after ≡ one_more before)
CountsWrite before after (suc taken) result = (result ≡ Ok (suc taken)) × (after ≡ before)
