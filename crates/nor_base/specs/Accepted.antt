-- What holds of the parameters that are accepted. Limits are this project's; the rest is JESD216B.
use Rattle.std.specs.Prelude.{◌≡◌, ◌≢◌, ℕ, Bool, true, false, ◌<◌, ◌≤◌, ◌%◌, ◌^◌, ◌==◌, not, ◌&&◌, List, [], ◌∷◌, ◌++◌, length, Some, IsSome, IfSome, sum_by}
use Rattle.std.specs.List.{list_any, AllByRecursion}
use Rattle.nor_base.specs.declared.meaning.Erase.{Erase}
use Rattle.nor_base.specs.declared.meaning.Region.{Region}
use Rattle.nor_base.specs.declared.meaning.Width.TheVariants.{Both}
use Rattle.nor_base.specs.declared.meaning.Switch.TheVariants.{Absent}
use Rattle.nor_base.specs.Parameters.{Parameters, erase_kind}
use Rattle.nor_base.specs.Instructions.{offered_opcodes, own_rows}

-- a power of two, its exponent within two bounds
pub record IsPowerOfTwo (low high n : ℕ) : Type 0 where
  pub exponent : ℕ
  pub at_least : low ≤ exponent
  pub at_most : exponent ≤ high
  pub value : n ≡ 2 ^ exponent

-- no number stands twice
abbrev pub are_distinct : List ℕ → Bool
are_distinct [] = true
are_distinct (x ∷ xs) = not (list_any (λ y. x == y) xs) && are_distinct xs

-- the opcodes that mean the same on every chip, offered or not; no other instruction may have one of them
abbrev pub fixed_opcodes : List ℕ
fixed_opcodes = 0x06 ∷ 0x04 ∷ 0x05 ∷ 0xB7 ∷ 0xE9 ∷ 0x02 ∷ 0x12 ∷ 0x32 ∷ 0x34 ∷ 0x03 ∷ 0x13 ∷ 0x6C ∷ []

-- a region of the sector map: not empty, a multiple of 256 bytes, a mask of four kinds
pub record IsRegion (region : Region) : Type 0 where
  pub some : 0 < region.size
  pub whole : region.size % 256 ≡ 0
  pub mask : region.kinds < 16

-- an erase kind's size: a power of two from 256 bytes to 16 MiB, and not below the page; its opcodes are bytes
pub record IsEraseKind (m : Parameters) (erase : Erase) : Type 0 where
  pub size : IsPowerOfTwo 8 24 erase.size
  pub whole_pages : m.page ≤ erase.size
  pub op : erase.op < 256
  pub op4 : IfSome erase.op4 (λ op4. op4 < 256)

pub record IsAccepted (m : Parameters) : Type 0 where
  -- a multiple of 4096 from 4096 to 256 MiB
  pub size_low : 4096 ≤ m.size
  pub size_high : m.size ≤ 2 ^ 28
  pub size_whole : m.size % 4096 ≡ 0
  -- from 16 to 4096 bytes
  pub page : IsPowerOfTwo 4 12 m.page
  pub four_kinds : length m.erases ≡ 4
  pub kinds : (kind : ℕ) (erase : Erase) → erase_kind m kind ≡ Some erase → IsEraseKind m erase
  pub some_region : 0 < length m.regions
  pub few_regions : length m.regions ≤ 256
  pub regions : AllByRecursion IsRegion m.regions
  pub regions_fill : sum_by (λ region. region.size) m.regions ≡ m.size
  -- only a chip of both widths has a mode to enter or leave
  pub enter : m.enter ≢ Absent → m.width ≡ Both
  pub leave : m.leave ≢ Absent → m.width ≡ Both
  pub quad_read4 : m.quad_read4 ≡ true → IsSome m.quad_read
  pub quad_read_op : IfSome m.quad_read (λ q. q.op < 256)
  -- 31 wait states and 7 mode clocks
  pub dummies : IfSome m.quad_read (λ q. q.dummies ≤ 38)
  -- no opcode of the 1-1-4 fast read or of a live erase kind is a fixed one or another of these
  pub opcodes : are_distinct (fixed_opcodes ++ offered_opcodes (own_rows m false)) ≡ true
