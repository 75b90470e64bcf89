-- Which devices are terminals (Linux: proc_tty(5), makedev(3)).
use Rattle.std.specs.Prelude.{◌≡◌, ℕ, ◌+◌, ◌*◌, ◌/◌, ◌%◌, ◌^◌, ◌≤◌, ◌==◌, Bool, true, nat_lt, List, length, Some}
use Rattle.std.specs.List.{after_first, before_first, position_or_len}
use Rattle.std.specs.Str.{trim_start}
use Rattle.norprog_common.specs.Values.{decimal_of}

-- the major number of a device: bits 8 to 19, and above them bits 44 to 63. The minor number: bits 0 to 7, and above them bits 20 to 43
abbrev pub major_of : ℕ → ℕ
major_of device = device / 2 ^ 44 * 4096 + device / 256 % 4096

abbrev pub minor_of : ℕ → ℕ
minor_of device = device / 2 ^ 20 % 2 ^ 24 * 256 + device % 256

-- a text has this byte
abbrev pub has_byte : ℕ → List ℕ → Bool
has_byte byte text = nat_lt (position_or_len (λ b. b == byte) text) (length text)

-- a line of a text: the bytes before its first newline, or a line of those after it
pub data HasLine (line : List ℕ) : List ℕ → Type 0 where
  FirstLine : (text : List ℕ) → has_byte 10 text ≡ true → line ≡ before_first (λ b. b == 10) text → HasLine line text
  LaterLine : (text : List ℕ) → has_byte 10 text ≡ true → HasLine line (after_first (λ b. b == 10) text) → HasLine line text

-- the first field of a line ends at the first blank after the white space before it; more fields come after that
abbrev pub first_field : List ℕ → List ℕ
first_field line = before_first (λ b. b == 32) (trim_start line)

abbrev pub after_field : List ℕ → List ℕ
after_field line = after_first (λ b. b == 32) (trim_start line)

-- the minor numbers of a driver are one number, or the first and the last with - between
pub data HasMinor (minor : ℕ) (text : List ℕ) : Type 0 where
  OnlyMinor : decimal_of text ≡ Some minor → HasMinor minor text
  MinorWithin : (first last : ℕ) → decimal_of (before_first (λ b. b == 45) text) ≡ Some first → decimal_of (after_first (λ b. b == 45) text) ≡ Some last
      → first ≤ minor → minor ≤ last → HasMinor minor text

-- a line of the list has the driver's name, that of its devices, their major number, their minor numbers and their type
pub record IsDriverOf (major minor : ℕ) (line : List ℕ) : Type 0 where
  pub major_number : decimal_of (first_field (after_field (after_field line))) ≡ Some major
  pub minor_numbers : HasMinor minor (first_field (after_field (after_field (after_field line))))

-- some driver of the list has the device of this number
pub data IsListed (device : ℕ) (drivers : List ℕ) : Type 0 where
  Lists : (line : List ℕ) → HasLine line drivers → IsDriverOf (major_of device) (minor_of device) line → IsListed device drivers
