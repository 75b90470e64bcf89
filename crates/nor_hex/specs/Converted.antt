-- A raw image, read and written as Intel HEX (this project's).
use Rattle.std.specs.Prelude.{◌≡◌, ◌⊎◌, ℕ, ◌<◌, List, length, Option}
use Rattle.std.specs.Io.KnownBytes.{Appends}
use Rattle.nor_base.specs.Device.{Ahead, Gives, IsAtEnd, Cuts}
use Rattle.nor_hex.specs.WrittenSegments.{image_records, text_of, hex_text}
use Rattle.nor_hex.specs.declared.converted.Unconverted.{Unconverted}
use Rattle.nor_hex.specs.declared.converted.Unconverted.TheVariants.{Image, Output, Memory}
use Rattle.nor_base.specs.Wire.{Wire}

-- a reader has just these bytes ahead
abbrev pub IsWhole : Ahead → List ℕ → Type 0
IsWhole ahead bytes = (rest : Ahead) × Gives ahead bytes rest × IsAtEnd rest

-- it has fewer bytes ahead than this; it has some; it has more than this
abbrev pub IsShort : ℕ → Ahead → Type 0
IsShort len ahead = (bytes : List ℕ) × (length bytes < len) × IsWhole ahead bytes

abbrev pub HasMore : Ahead → Type 0
HasMore ahead = (bytes : List ℕ) × (rest : Ahead) × (0 < length bytes) × Gives ahead bytes rest

abbrev pub IsLong : ℕ → Ahead → Type 0
IsLong len ahead = (bytes : List ℕ) × (rest : Ahead) × (len < length bytes) × Gives ahead bytes rest

abbrev pub HasOtherLength : ℕ → Ahead → Type 0
HasOtherLength len ahead = IsShort len ahead ⊎ IsLong len ahead

-- the reader had so many bytes, and just their HEX text was put
pub record IsConverted (at len : ℕ) (ahead : Ahead) (before after : Option (List ℕ)) : Type 0 where
  pub bytes : List ℕ
  pub long : length bytes ≡ len
  pub whole : IsWhole ahead bytes
  pub put : Appends before after (hex_text at bytes)

-- a proper prefix of the HEX text of some bytes was: its end record isn't whole
abbrev pub IsUnended : ℕ → Option (List ℕ) → Option (List ℕ) → Type 0
IsUnended at before after = (bytes : List ℕ) × Cuts before after (hex_text at bytes)

-- why it ends before that: the image can't be read as said, the output failed, or memory ran out
pub data Stops (Unread Unwritten : Type 0) : Unconverted → Type 0 where
  Unreadable : Unread → Stops Unread Unwritten Image
  Unwritable : Unwritten → Stops Unread Unwritten Output
  Unallotted : Stops Unread Unwritten Memory

-- so many bytes were read, and their records put
pub record WasRead (at n : ℕ) (ahead rest : Wire) : Type 0 where
  pub bytes : List ℕ
  pub long : length bytes ≡ n
  pub given : Gives ahead.ahead bytes rest.ahead
  pub put : Appends ahead.held rest.held (text_of (image_records at bytes))

-- nothing was put, or a proper prefix of the records of some bytes
abbrev pub IsCutPart : ℕ → Option (List ℕ) → Option (List ℕ) → Type 0
IsCutPart at before after = (after ≡ before) ⊎ ((bytes : List ℕ) × Cuts before after (text_of (image_records at bytes)))
