-- What stands at its place in the words of a line (this project's). It says something of other words, too; a reader compares them.
use Rattle.std.specs.Prelude.{◌≡◌, ℕ, Bool, true, false, ◌+◌, ◌*◌, ◌^◌, ◌==◌, ◌&&◌, ◌||◌, nat_le, nat_lt, if◌then◌else◌, List, [], ◌++◌, length, take, drop, codes, replicate, position, slice_index, Option, None, Some, option_map, option_and_then, Result, Ok, Err}
use Rattle.std.specs.Char.{is_digit}
use Rattle.std.specs.Int.{w32, from_be_bytes}
use Rattle.std.specs.List.{list_all}
use Rattle.std.specs.Str.{bytes_eq}
use Rattle.std.specs.Str.Parse.{digits_value}
use Rattle.hex.specs.Hex.{decode_of, decode_sized}
use Rattle.hex.specs.declared.error.FromHexError.{FromHexError}
use Rattle.nor_base.specs.declared.step.Step.{Step}
use Rattle.nor_base.specs.declared.step.Step.TheVariants.{Send, Poll, Verify}
use Rattle.nor_base.specs.Instructions.{quad_read_dummies}
use Rattle.nor_base.specs.Parameters.{Parameters}
use Rattle.nor_base.specs.Run.{poll_clocks}
use Rattle.nor_base.specs.Script.{step_line}
use Rattle.nor_base.specs.Step.{IsStep}
use Rattle.nor_frames.specs.Frames.{frame}
use Rattle.nor_listing.specs.declared.parts.Data.{Data}
use Rattle.nor_listing.specs.declared.parts.Place.{Place}
use Rattle.nor_listing.specs.declared.told.Reading.{Reading}
use Rattle.nor_listing.specs.declared.parts.Word.{Word}
use Rattle.nor_listing.specs.declared.parts.Word.TheVariants as word
use Rattle.nor_select.specs.Coded.{Load, plain, sent, sent4}

-- the byte, the number below 2^32 and the bytes that hexadecimal digits spell
abbrev pub byte_by : Result (List ℕ) FromHexError → Option ℕ
byte_by (Ok bytes) = Some (slice_index bytes 0)
byte_by (Err e) = None

abbrev pub number_by : Result (List ℕ) FromHexError → Option ℕ
number_by (Ok bytes) = Some (from_be_bytes w32 bytes)
number_by (Err e) = None

abbrev pub bytes_by : Result (List ℕ) FromHexError → Option (List ℕ)
bytes_by (Ok bytes) = Some bytes
bytes_by (Err e) = None

abbrev pub byte_in : List ℕ → Option ℕ
byte_in digits = byte_by (decode_sized digits 1)

abbrev pub number_in : List ℕ → Option ℕ
number_in digits = number_by (decode_sized digits 4)

abbrev pub bytes_in : List ℕ → Option (List ℕ)
bytes_in digits = bytes_by (decode_of digits)

-- the number of decimal digits, where it has 64 bits
abbrev pub decimal_in : List ℕ → Option ℕ
decimal_in digits =
    if list_all (λ c. is_digit c 10) digits && nat_lt (digits_value 10 digits) (2 ^ 64) then Some (digits_value 10 digits) else None

-- what is up to the first blank, and what is after it
abbrev pub blank_in : List ℕ → Option ℕ
blank_in text = position (λ byte. byte == 0x20) text

abbrev pub cut_by : List ℕ → Option ℕ → List ℕ × List ℕ
cut_by text (Some blank) = (take blank text, drop (blank + 1) text)
cut_by text None = (text, [])

abbrev pub cut : List ℕ → List ℕ × List ℕ
cut text = cut_by text (blank_in text)

-- opcode, address, and what is after them
pub record PlaceIn : Type 0 where
  pub op : ℕ
  pub address : ℕ
  pub after : List ℕ

abbrev pub place_at : Place → PlaceIn
place_at p = record { op = p.op; address = p.address; after = p.after.now }

abbrev pub opcode_on : List ℕ → Option PlaceIn
opcode_on text =
    if nat_le 2 (length text) then option_map (λ op. record { op = op; address = 0; after = drop 2 text }) (byte_in (take 2 text)) else None

abbrev pub address_on : PlaceIn → Option PlaceIn
address_on p =
    if nat_le 9 (length p.after)
    then option_map (λ a. record { op = p.op; address = a; after = drop 9 p.after }) (number_in (drop 1 (take 9 p.after))) else None

abbrev pub place_on : List ℕ → Option PlaceIn
place_on text = option_and_then address_on (opcode_on text)

-- a number of bytes, and the digits of bytes
abbrev pub count_on : List ℕ × List ℕ → Option (ℕ × List ℕ)
count_on parts = option_map (λ n. (n, parts.1)) (decimal_in parts.0)

abbrev pub counted_on : List ℕ → Option (ℕ × List ℕ)
counted_on text = if nat_le 1 (length text) then count_on (cut (drop 1 text)) else None

-- opcode and address, a number of bytes, and the digits of bytes
pub record DataIn : Type 0 where
  pub place : PlaceIn
  pub count : ℕ
  pub digits : List ℕ

abbrev pub data_at : Data → DataIn
data_at d = record { place = place_at d.place; count = d.count; digits = d.digits.now }

abbrev pub data_after : PlaceIn → Option DataIn
data_after p = option_map (λ (c : ℕ × List ℕ). record { place = p; count = c.0; digits = c.1 }) (counted_on p.after)

abbrev pub data_on : List ℕ → Option DataIn
data_on text = option_and_then data_after (place_on text)

-- the clocks of an instruction; those of one that reads so many bytes
abbrev pub framed : PlaceIn → ℕ → ℕ → Load → List ℕ
framed p width dummies load = frame (record { op = p.op; address = p.address; width = width; dummies = dummies; load = load })

abbrev pub sampled : PlaceIn → ℕ → Reading → ℕ → List ℕ
sampled p width reading n = framed p width reading.dummies plain ++ replicate (n * reading.clocks) reading.symbol

abbrev pub single : Reading
single = record { dummies = 0; clocks = 8; symbol = 0x2E }

abbrev pub on_four : Parameters → Reading
on_four m = record { dummies = quad_read_dummies m; clocks = 2; symbol = 0x3D }

abbrev pub asked_by : ℕ → Reading → DataIn → List ℕ
asked_by width reading d = sampled d.place width reading d.count

abbrev pub asked_in : ℕ → Reading → List ℕ → Option (List ℕ)
asked_in width reading text = option_map (asked_by width reading) (data_on text)

abbrev pub status_in : List ℕ → Option (List ℕ)
status_in text = option_map (asked_by 0 single) (option_and_then data_after (opcode_on text))

abbrev pub load_by : Bool → List ℕ → Load
load_by four bytes = if four then sent4 bytes else sent bytes

abbrev pub sends_by : Bool → ℕ → DataIn → Option (List ℕ)
sends_by four width d = option_map (λ bytes. framed d.place width 0 (load_by four bytes)) (bytes_in d.digits)

abbrev pub sends_in : Bool → ℕ → List ℕ → Option (List ℕ)
sends_in four width text = option_and_then (sends_by four width) (data_on text)

abbrev pub verified_by : ℕ → Reading → DataIn → Option Step
verified_by width reading d = option_map (λ bytes. Verify (sampled d.place width reading d.count) bytes) (bytes_in d.digits)

abbrev pub verified_in : ℕ → Reading → List ℕ → Option Step
verified_in width reading text = option_and_then (verified_by width reading) (data_on text)

-- a word
abbrev pub is_bare : List ℕ → Bool
is_bare text =
    bytes_eq text (codes "enable") || (bytes_eq text (codes "disable") || (bytes_eq text (codes "enter") || bytes_eq text (codes "leave")))

abbrev pub word_in : List ℕ → Option Word
word_in text =
    if is_bare text then Some word.Bare
    else if bytes_eq text (codes "poll") then Some word.Poll
    else if bytes_eq text (codes "status") then Some word.Status
    else if bytes_eq text (codes "erase") then Some word.Erase
    else if bytes_eq text (codes "program") then Some word.Program
    else if bytes_eq text (codes "quadprogram") then Some word.QuadProgram
    else if bytes_eq text (codes "read") then Some word.Read
    else if bytes_eq text (codes "quadread") then Some word.QuadRead
    else if bytes_eq text (codes "verify") then Some word.Verify
    else if bytes_eq text (codes "quadverify") then Some word.QuadVerify
    else if bytes_eq text (codes "broken") || bytes_eq text (codes "unknown") then Some word.Copy
    else None

-- where the text is the line of a step in a script, this is the step
abbrev pub IsCopied : List ℕ → Option Step → Type 0
IsCopied text found = (x : Step) → IsStep x → text ≡ step_line x → found ≡ Some x

-- the clocks that are sent, by a word and what is after it
abbrev pub clocks_by : Parameters → ℕ → Word → List ℕ → Option (List ℕ)
clocks_by m width word.Bare text = option_map (λ p. framed p 0 0 plain) (opcode_on text)
clocks_by m width word.Status text = status_in text
clocks_by m width word.Erase text = option_map (λ p. framed p width 0 plain) (place_on text)
clocks_by m width word.Program text = sends_in false width text
clocks_by m width word.QuadProgram text = sends_in true width text
clocks_by m width word.Read text = asked_in width single text
clocks_by m width word.QuadRead text = asked_in width (on_four m) text
clocks_by m width other text = None

-- the step of a word and what is after it
abbrev pub IsToldBy : Parameters → ℕ → Option Word → List ℕ → Option Step → Type 0
IsToldBy m width (Some word.Poll) text found = found ≡ Some (Poll poll_clocks)
IsToldBy m width (Some word.Copy) text found = IsCopied text found
IsToldBy m width (Some word.Verify) text found = found ≡ verified_in width single text
IsToldBy m width (Some word.QuadVerify) text found = found ≡ verified_in width (on_four m) text
IsToldBy m width (Some other) text found = found ≡ option_map Send (clocks_by m width other text)
IsToldBy m width None text found = found ≡ None

abbrev pub IsTold : Parameters → ℕ → List ℕ → Option Step → Type 0
IsTold m width text found = IsToldBy m width (word_in (cut text).0) (cut text).1 found
