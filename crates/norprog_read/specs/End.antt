-- Whether a chip is as large as its content (this project's).
use Rattle.std.specs.Prelude.{◌≡◌, ◌⊎◌, ◌<◌, ◌≤◌, ◌+◌, ◌/◌, ◌==◌, not, min, is_some, ℕ, Bool, true, false, List, ◌++◌, length, slice_index, None, Result, Ok, Err}
use Rattle.std.specs.List.{list_any, slice_range}
use Rattle.nor_loop.specs.Reads.{Chunk}
use Rattle.nor_reader.specs.declared.difference.Difference.{Difference}
use Rattle.nor_reader.specs.declared.difference.Mismatch.{Mismatch}
use Rattle.nor_reader.specs.declared.difference.Mismatch.TheVariants.{Exchange, Differs}
use Rattle.nor_reader.specs.declared.by.ReadBy.{ReadBy}
use Rattle.nor_reader.specs.Past.{ReadsPast}
use Rattle.nor_reader.specs.Reads.{reads, Reads}
use Rattle.nor_reader.specs.Twice.{ReadsWhole}
use Rattle.nor_serprog.specs.declared.fault.Fault.{Fault}
use Rattle.nor_base.specs.Wire.{Wire}
use Rattle.norprog_read.specs.declared.asked.Ask.{Ask}
use Rattle.norprog_read.specs.declared.asked.Span.{Span}
use Rattle.norprog_read.specs.declared.fault.Unlike.TheVariants as unlike
use Rattle.norprog_read.specs.declared.fault.Unread.{Unread}
use Rattle.norprog_read.specs.declared.fault.Unread.TheVariants.{Unlike}
use Rattle.norprog_read.specs.Span.{part_in}

-- some byte isn't FFh
abbrev pub has_some : List ℕ → Bool
has_some content = list_any (λ byte. not (byte == 0xFF)) content

-- its second half is its first
abbrev pub IsTwice : List ℕ → Type 0
IsTwice content = (half : List ℕ) × (content ≡ half ++ half)

-- a content repeats itself, as that of a chip of half the size does; of a blank one that says nothing
pub record Repeats (content : List ℕ) : Type 0 where
  pub some : has_some content ≡ true
  pub twice : IsTwice content

-- it doesn't, unless it may
abbrev pub IsOnce : Ask → List ℕ → Type 0
IsOnce ask content = ask.repeats ≡ false → Repeats content → ⊥

-- the bytes of a part from the first on that isn't FFh, up to the end of it or of the first half, and the addresses half a chip away
pub record IsAway (content : List ℕ) (part : Span) (c : Chunk) : Type 0 where
  pub from : ℕ
  pub low : part.low ≤ from
  pub high : from + length c.bytes ≤ part.high
  pub bytes : c.bytes ≡ slice_range content from (from + length c.bytes)
  pub blank : (a : ℕ) → part.low ≤ a → a < from → slice_index content a ≡ 0xFF
  pub some : has_some c.bytes ≡ true
  pub all : (from + length c.bytes ≡ part.high) ⊎ (from + length c.bytes ≡ length content / 2)
  pub away : (c.at ≡ from + length content / 2) ⊎ (from ≡ c.at + length content / 2)
  pub within : c.at + length c.bytes ≤ length content

-- how a chip of just this content is read past its end
pub record Past : Type 0 where
  pub reads : Reads
  pub content : List ℕ

abbrev pub past : ℕ → ReadBy → List ℕ → Past
past most by content = record { reads = reads most by; content = content }

-- and this came of it
abbrev pub EndsPast : Wire → Wire → Past → Result (Unit {0}) Mismatch → Type 0
EndsPast before after p result = ReadsPast p.reads before after result p.content

-- past its end the chip gave what one of just this content gives there; where it may be larger nothing was asked
abbrev pub GivesPast : Wire → Wire → Past → Bool → Type 0
GivesPast before after p false = EndsPast before after p (Ok tt)
GivesPast before after p true = after ≡ before

-- reads of at most 256 bytes
abbrev pub few : Reads → Reads
few r = reads (min r.most 256) r.by

-- of a chip that was read whole: its content doesn't repeat itself, unless it may, and it ends where that does; of one that was read in
-- part: its halves may be alike, the part is blank, or half a chip away from its bytes another byte came
pub data SeesEnd (before after : Wire) (p : Past) (ask : Ask) (part : Span) : Type 0 where
  Whole : ask.near ≡ None → IsOnce ask p.content → GivesPast before after p ask.any_size → SeesEnd before after p ask part
  MayBeTwice : is_some ask.near ≡ true → ask.repeats ≡ true → after ≡ before → SeesEnd before after p ask part
  Blank : is_some ask.near ≡ true → has_some (part_in part p.content) ≡ false → after ≡ before → SeesEnd before after p ask part
  Elsewhere : is_some ask.near ≡ true → (c : Chunk) → IsAway p.content part c → (d : Difference)
      → ReadsWhole (few p.reads) before after (Err (Differs d)) c → SeesEnd before after p ask part

-- of a chip that was read whole: its halves are alike; or past its end an exchange ended early, or the byte at an address is another. Of
-- one that was read in part: half a chip away just its bytes came, or an exchange ended early
pub data StopsEnd (before after : Wire) (p : Past) (ask : Ask) (part : Span) : Unread → Type 0 where
  Alike : ask.near ≡ None → after ≡ before → ask.repeats ≡ false → Repeats p.content → StopsEnd before after p ask part (Unlike unlike.Repeats)
  Lost : (why : Fault) → ask.near ≡ None → ask.any_size ≡ false → EndsPast before after p (Err (Exchange why))
      → StopsEnd before after p ask part (Unlike (unlike.Asking why))
  Other : (d : Difference) → ask.near ≡ None → ask.any_size ≡ false → EndsPast before after p (Err (Differs d))
      → StopsEnd before after p ask part (Unlike (unlike.At d.address))
  Twice : (c : Chunk) → is_some ask.near ≡ true → ask.repeats ≡ false → IsAway p.content part c
      → ReadsWhole (few p.reads) before after (Ok tt) c → StopsEnd before after p ask part (Unlike unlike.Repeats)
  LostThere : (c : Chunk) (why : Fault) → is_some ask.near ≡ true → ask.repeats ≡ false → IsAway p.content part c
      → ReadsWhole (few p.reads) before after (Err (Exchange why)) c → StopsEnd before after p ask part (Unlike (unlike.Asking why))
