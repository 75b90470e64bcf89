-- What a chip gives past its end (W25Q256JV datasheet, Read Data 03h: reading on after the highest address begins at 0 again; an erase takes
-- a block at a multiple of its own size).
use Rattle.std.specs.Prelude.{ℕ, ◌+◌, ◌-◌, ◌%◌, ◌^◌, ◌<◌, ◌≤◌, min, max, true, List, ◌++◌, length, take, Option, Result, Ok, Err}
use Rattle.std.specs.List.{slice_range}
use Rattle.nor_base.specs.Device.{Ahead}
use Rattle.nor_base.specs.Wire.{Wire, wire}
use Rattle.nor_reader.specs.declared.difference.Mismatch.{Mismatch}
use Rattle.nor_reader.specs.declared.by.ReadBy.{ReadBy}
use Rattle.nor_reader.specs.declared.by.ReadBy.TheVariants.{Content, FourBytes, Entered}
use Rattle.nor_reader.specs.Again.{MissesPiece}
use Rattle.nor_loop.specs.Reads.{chunk}
use Rattle.nor_reader.specs.Reads.{HasReadOn, Reads}

-- the addresses below this one are reached by the address bytes of a read: by four or by three; none in a mode that isn't entered for it
abbrev pub reach : ReadBy → ℕ
reach (Content true) = 2 ^ 32
reach FourBytes = 2 ^ 32
reach (Entered enter leave) = 0
reach other = 2 ^ 24

-- so many addresses past the end of so many bytes tell where the chip ends: those up to the next multiple of 64 KiB, which an erase of no more
-- can take with the last bytes, and 4096 at least, but no more than it has bytes
abbrev pub telling_past : ℕ → ℕ
telling_past size = min size (max 4096 ((65536 - size % 65536) % 65536))

-- it is read at these, as far as the address bytes reach
abbrev pub past_end : ReadBy → ℕ → ℕ
past_end by size = min (telling_past size) (reach by - size)

-- a content, and what a chip that has just this gives after it
abbrev pub with_past : ReadBy → List ℕ → List ℕ
with_past by content = content ++ take (past_end by (length content)) content

-- the bytes before an address past the end came, and the next read ended so
pub record MissesPast (r : Reads) (before after : Wire) (content : List ℕ) (why : Mismatch) : Type 0 where
  pub at : ℕ
  pub len : ℕ
  pub some : 0 < len
  pub within : at + len ≤ past_end r.by (length content)
  pub held : Option (List ℕ)
  pub ahead : Ahead
  pub alike : HasReadOn r before (wire held ahead) content (content ++ take at content)
  pub stop : MissesPiece r (wire held ahead) after (chunk (length content + at) (slice_range content at (at + len))) why

-- what reading past the end says
abbrev pub ReadsPast : Reads → Wire → Wire → Result (Unit {0}) Mismatch → List ℕ → Type 0
ReadsPast r before after (Ok u) content = HasReadOn r before after content (with_past r.by content)
ReadsPast r before after (Err why) content = MissesPast r before after content why
