-- Which part of a chip is read (this project's).
use Rattle.std.specs.Prelude.{◌≡◌, ℕ, ◌+◌, ◌-◌, ◌*◌, ◌/◌, min, max, true, false, List, None, Some}
use Rattle.std.specs.List.{slice_range}
use Rattle.nor_base.specs.Parameters.{Parameters}
use Rattle.nor_geometry.specs.Window.{IsWindowSize}
use Rattle.nor_loop.specs.Reads.{chunk, Chunk}
use Rattle.norprog_read.specs.declared.asked.Ask.{Ask}
use Rattle.norprog_read.specs.declared.asked.Span.{Span}

abbrev pub span : ℕ → ℕ → Span
span low high = record { low = low; high = high }

-- the bytes of a window: those of the largest erase of a chip, and 64 KiB at least; no erase goes over the end of such a window
abbrev pub IsWide : Parameters → ℕ → Type 0
IsWide m window = (largest : ℕ) × IsWindowSize m largest × (window ≡ max largest 65536)

-- where the windows end that have addresses below this one, of so many bytes of a chip
abbrev pub windows_end : ℕ → ℕ → ℕ → ℕ
windows_end high window size = min ((min high size + (window - 1)) / window * window) size

-- the windows around some addresses, as far as a chip of so many bytes reaches
abbrev pub windows_around : Span → ℕ → ℕ → Span
windows_around near window size = span (min (near.low / window * window) (windows_end near.high window size)) (windows_end near.high window size)

-- the part that is asked for of a chip's content: none of it, all of it, or the windows around some addresses
pub data IsPart (ask : Ask) (m : Parameters) : Span → Type 0 where
  Nothing : ask.content ≡ false → IsPart ask m (span 0 0)
  All : ask.content ≡ true → ask.near ≡ None → IsPart ask m (span 0 m.size)
  Around : (near : Span) (window : ℕ) → ask.content ≡ true → ask.near ≡ Some near → IsWide m window
      → IsPart ask m (windows_around near window m.size)

-- the bytes of a content that lie in such a part
abbrev pub part_in : Span → List ℕ → List ℕ
part_in part content = slice_range content part.low part.high

abbrev pub came : Span → List ℕ → Chunk
came part content = chunk part.low (part_in part content)
