-- The limits of what a sheet says: those of a chip's meaning.
use Rattle.std.specs.Prelude.{◌≡◌, ℕ, ◌%◌, ◌^◌, ◌<◌, ◌≤◌, ◌==◌, ◌&&◌, nat_lt, nat_le, Bool, ⊤, Option, IfSome, List, [], ◌∷◌}
use Rattle.std.specs.List.{list_any}
use Rattle.nor_base.specs.declared.meaning.Erase.{Erase}
use Rattle.nor_base.specs.declared.meaning.QuadRead.{QuadRead}
use Rattle.nor_base.specs.Accepted.{IsPowerOfTwo, IsRegion}
use Rattle.nor_base.specs.Chip.{page_sizes}
use Rattle.nor_sheet.specs.declared.said.Said.{Said}
use Rattle.nor_sheet.specs.declared.said.Said.TheVariants as say

-- a multiple of 4096 from 4096 to 256 MiB
abbrev pub is_size : ℕ → Bool
is_size n = nat_le 4096 n && (nat_le n (2 ^ 28) && n % 4096 == 0)

-- a power of two from 16 to 4096
abbrev pub is_page : ℕ → Bool
is_page n = list_any (λ size. n == size) page_sizes

-- kinds are numbered 1 to 4
abbrev pub is_kind : ℕ → Bool
is_kind k = nat_le 1 k && nat_le k 4

-- a power of two from 256 to 16 MiB
abbrev pub erase_sizes : List ℕ
erase_sizes =
    0x100 ∷ 0x200 ∷ 0x400 ∷ 0x800 ∷ 0x1000 ∷ 0x2000 ∷ 0x4000 ∷ 0x8000 ∷ 0x10000 ∷ 0x20000 ∷ 0x40000 ∷ 0x80000 ∷ 0x100000
    ∷ 0x200000 ∷ 0x400000 ∷ 0x800000 ∷ 0x1000000 ∷ []

abbrev pub is_erase_size : ℕ → Bool
is_erase_size n = list_any (λ size. n == size) erase_sizes

-- a region isn't empty, has a multiple of 256 bytes and a mask below 16
abbrev pub is_region : ℕ → ℕ → Bool
is_region size kinds = nat_lt 0 size && (size % 256 == 0 && nat_lt kinds 16)

-- what holds of an erase kind that was read
pub record IsErase (erase : Erase) : Type 0 where
  pub size : IsPowerOfTwo 8 24 erase.size
  pub op : erase.op < 256
  pub op4 : IfSome erase.op4 (λ op4. op4 < 256)

-- what holds of a quad read that was read
abbrev pub IsRead : Option QuadRead → Type 0
IsRead read = IfSome read (λ q. (q.op < 256) × (q.dummies ≤ 38))

-- what holds of each statement that was read
abbrev pub IsSaid : Said → Type 0
IsSaid (say.Size n) = (4096 ≤ n) × (n ≤ 2 ^ 28) × (n % 4096 ≡ 0)
IsSaid (say.Page page) = IsPowerOfTwo 4 12 page.size
IsSaid (say.Kind k erase) = (1 ≤ k) × (k ≤ 4) × IsErase erase
IsSaid (say.QuadRead read) = IsRead read
IsSaid (say.Region region) = IsRegion region
IsSaid (say.Address width) = ⊤
IsSaid (say.Enter switch) = ⊤
IsSaid (say.Leave switch) = ⊤
IsSaid (say.Dedicated dedicated) = ⊤
