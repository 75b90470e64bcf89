-- Which texts are accepted, and the first fault of the others.
-- Intel's "Hexadecimal Object File Format Specification", revision A, "End of File Record"; the order of the causes, and that a byte may come twice, are our own rules.
use Rattle.std.specs.Prelude.{◌≡◌, ◌≢◌, ℕ, ◌+◌, ◌-◌, ◌==◌, Bool, true, false, List, [], ◌∷◌, ◌++◌, length, map, take, slice_get, Some, Ok, Err}
use Rattle.std.specs.List.{list_any}
use Rattle.std.specs.List.Sorted.{IsStrictlyIncreasing}
use Rattle.nor_hex.specs.declared.fault.HexFault.{HexFault}
use Rattle.nor_hex.specs.declared.fault.HexFault.TheVariants.{NoColon, BadDigit, BadLength, BadSum, BadType, Conflict, NoEnd, AfterEnd, Memory}
use Rattle.nor_lines.specs.Lines.{lines_of_text, filled_lines}
use Rattle.nor_hex.specs.Record.{Record}
use Rattle.nor_hex.specs.Records.{record_at, line_records}
use Rattle.nor_hex.specs.Image.{Puts, Pairs, addresses, byte_at}

abbrev pub is_end : Record → Bool
is_end line = line.kind == 1

-- some address is given two different bytes
pub record HasConflict (records : List Record) : Type 0 where
  pub address : ℕ
  pub first : ℕ
  pub second : ℕ
  pub puts_first : Puts records address first
  pub puts_second : Puts records address second
  pub differ : first ≢ second

-- nothing is wrong with these records so far: none but the last is an end record, and no address is given two different bytes;
-- that there is an end record is said where a whole text is accepted
pub record IsFaultless (records : List Record) : Type 0 where
  pub end_is_last : list_any is_end (take (length records - 1) records) ≡ false
  pub consistent : (address a b : ℕ) → Puts records address a → Puts records address b → a ≡ b

-- the text has these records: each line that isn't blank is one, the end record is there once and last, and no address is given two different bytes
pub record IsAccepted (text : List ℕ) (records : List Record) : Type 0 where
  pub each : line_records text ≡ map Ok records
  pub faultless : IsFaultless records
  pub has_end : list_any is_end records ≡ true

-- the image of the text: it is accepted, and the image gives an address a byte exactly where a data record puts that byte there
pub record IsImage (text : List ℕ) (image : Pairs) : Type 0 where
  pub records : List Record
  pub accepted : IsAccepted text records
  pub rising : IsStrictlyIncreasing (addresses image)
  pub given : (address byte : ℕ) → byte_at image address ≡ Some byte → Puts records address byte
  pub put : (address byte : ℕ) → Puts records address byte → byte_at image address ≡ Some byte

-- the first cause, in the order of the causes, that a line with this number has after these records
abbrev pub IsCause : List Record → ℕ × List ℕ → HexFault → Type 0
IsCause earlier line (AfterEnd n) = (list_any is_end earlier ≡ true) × (n ≡ line.0)
IsCause earlier line (Conflict n) = (list_any is_end earlier ≡ false) × (n ≡ line.0) × ((this : Record) × (record_at line ≡ Ok this) × HasConflict (earlier ++ this ∷ []))
IsCause earlier line (NoEnd n) = ⊥
IsCause earlier line Memory = ⊥
IsCause earlier line (NoColon n) = (list_any is_end earlier ≡ false) × (record_at line ≡ Err (NoColon n))
IsCause earlier line (BadDigit n) = (list_any is_end earlier ≡ false) × (record_at line ≡ Err (BadDigit n))
IsCause earlier line (BadLength n) = (list_any is_end earlier ≡ false) × (record_at line ≡ Err (BadLength n))
IsCause earlier line (BadSum n) = (list_any is_end earlier ≡ false) × (record_at line ≡ Err (BadSum n))
IsCause earlier line (BadType n) = (list_any is_end earlier ≡ false) × (record_at line ≡ Err (BadType n))

-- the fault is that of a line, and no line before it has one
pub record IsLineFault (text : List ℕ) (fault : HexFault) : Type 0 where
  pub place : ℕ
  pub line : ℕ × List ℕ
  pub earlier : List Record
  pub here : slice_get (filled_lines text) place ≡ Some line
  pub before : take place (line_records text) ≡ map Ok earlier
  pub faultless : IsFaultless earlier
  pub cause : IsCause earlier line fault

-- no line has a fault, but there is no end record
pub record LacksEnd (text : List ℕ) : Type 0 where
  pub records : List Record
  pub each : line_records text ≡ map Ok records
  pub faultless : IsFaultless records
  pub no_end : list_any is_end records ≡ false

-- the first fault of a text
abbrev pub IsFault : List ℕ → HexFault → Type 0
IsFault text (NoEnd n) = (n ≡ length (lines_of_text text) + 1) × LacksEnd text
IsFault text fault = IsLineFault text fault
