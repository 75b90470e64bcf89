-- A chip (W25Q256JV datasheet: the memory array, and of the status registers the write enable latch WEL, the current
-- address mode ADS and BUSY; this project's: busy times counted in status
-- reads).
use Rattle.std.specs.Prelude.{◌≡◌, ◌≢◌, ℕ, zero, suc, Bool, true, false, ◌==◌, nat_le, not, ◌&&◌, ◌||◌, List, [], ◌∷◌, length}
use Rattle.std.specs.List.{list_any}
use Rattle.nor_base.specs.declared.meaning.Start.{Start}
use Rattle.nor_base.specs.declared.meaning.Width.{Width}
use Rattle.nor_base.specs.declared.meaning.Width.TheVariants.{Three, Four}
use Rattle.nor_base.specs.Parameters.{Parameters}

-- what is fixed with a chip
pub record Setting : Type 0 where
  pub meaning : Parameters
  -- the mode that it begins in, and its quad setting
  pub start : Start
  -- bytes of its page
  pub page : ℕ
  -- for how many status reads each accepted program or erase stays busy, in their order; 0 past the end
  pub busy : List ℕ
  -- whether a set latch stays where the address mode is entered or left
  pub keeps : Bool

-- the sizes that a page may have
abbrev pub page_sizes : List ℕ
page_sizes = 16 ∷ 32 ∷ 64 ∷ 128 ∷ 256 ∷ 512 ∷ 1024 ∷ 2048 ∷ 4096 ∷ []

-- a chip of this meaning may have a page of this size: the meaning's own or, where that is only the least, any power of two from it to 4096
abbrev pub may_page : Parameters → ℕ → Bool
may_page m page = (page == m.page) || (m.open_page && (nat_le m.page page && list_any (λ size. page == size) page_sizes))

-- a chip of this meaning and start: whatever its page may be, its busy times, and whether it keeps a set latch
pub record IsChipOf (m : Parameters) (begin : Start) (s : Setting) : Type 0 where
  pub its_meaning : s.meaning ≡ m
  pub its_start : s.start ≡ begin
  pub its_page : may_page m s.page ≡ true

-- the chip of this meaning and start with the meaning's own page, and these busy times
abbrev pub chip_of : Parameters → Start → List ℕ → Bool → Setting
chip_of m start busy keeps = record { meaning = m; start = start; page = m.page; busy = busy; keeps = keeps }

-- a chip with three address bytes alone has no four-byte mode to begin in
abbrev pub IsPossible : Parameters → Start → Type 0
IsPossible m start = start.mode4 ≡ true → m.width ≢ Three

-- a chip at one moment
pub record Chip : Type 0 where
  pub array : List ℕ
  pub latch : Bool
  -- four-byte address mode
  pub mode4 : Bool
  -- status reads left for which it is busy
  pub left : ℕ
  -- the busy times of the programs and erases to come: the list without those of the ones accepted so far
  pub to_come : List ℕ

abbrev pub always_four : Width → Bool
always_four Four = true
always_four other = false

-- a chip of this meaning and start begins in four-byte mode: the start says so, or it has no other
abbrev pub begins4 : Parameters → Start → Bool
begins4 m start = start.mode4 || always_four m.width

abbrev pub first_mode4 : Setting → Bool
first_mode4 s = begins4 s.meaning s.start

-- idle, the latch clear, in an address mode
abbrev pub resting : Bool → List ℕ → List ℕ → Chip
resting mode4 array to_come = record { array = array; latch = false; mode4 = mode4; left = 0; to_come = to_come }

-- the array has a byte for each address of the chip
abbrev pub IsWhole : Setting → Chip → Type 0
IsWhole s c = length c.array ≡ s.meaning.size

-- with this content, before any transaction
abbrev pub ready : Setting → List ℕ → Chip
ready s content = record { array = content; latch = false; mode4 = first_mode4 s; left = 0; to_come = s.busy }

-- some status reads are left
abbrev pub is_busy : ℕ → Bool
is_busy zero = false
is_busy (suc left) = true

-- two address modes are the same one
abbrev pub is_mode : Bool → Bool → Bool
is_mode true mode4 = mode4
is_mode false mode4 = not mode4

-- nothing is left busy, the latch is clear, the mode is the first one
unfoldable pub is_settled : Setting → Chip → Bool
is_settled s c = not (is_busy c.left) && (not c.latch && is_mode (first_mode4 s) c.mode4)
