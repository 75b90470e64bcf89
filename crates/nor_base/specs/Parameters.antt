-- What a chip's SFDP parameters say of it (JESD216B: basic flash parameter table FF00h, sector map FF81h, four-byte
-- address instruction table FF84h). Sizes are bytes.
use Rattle.std.specs.Prelude.{ℕ, zero, suc, Bool, true, false, ◌/◌, ◌%◌, ◌^◌, ◌==◌, ◌&&◌, List, Option, None, is_some, slice_get, option_and_then}
use Rattle.std.specs.List.{list_any}
use Rattle.std.specs.Option.{option_map_or}
use Rattle.nor_base.specs.declared.meaning.Width.{Width}
use Rattle.nor_base.specs.declared.meaning.Switch.{Switch}
use Rattle.nor_base.specs.declared.meaning.Region.{Region}
use Rattle.nor_base.specs.declared.meaning.Erase.{Erase}
use Rattle.nor_base.specs.declared.meaning.QuadRead.{QuadRead}

pub record Parameters : Type 0 where
  -- FF00h DWORD 2, the density; DWORD 11 bits 7:4, the page
  pub size : ℕ
  pub page : ℕ
  -- a basic table of fewer than 16 DWORDs tells only that the page is 64 bytes or larger: `page` is the least that it may be
  pub open_page : Bool
  -- address bytes of the legacy opcodes: DWORD 1 bits 18:17; four also by DWORD 16 bit 30
  pub width : Width
  -- the slots of erase kinds 1 to 4: DWORDs 8 and 9, dedicated opcodes in FF84h DWORD 2
  pub erases : List (Option Erase)
  -- the regions of the sector map FF81h, the first from address 0 on
  pub regions : List Region
  -- how four-byte address mode is entered and left: FF00h DWORD 16
  pub enter : Switch
  pub leave : Switch
  -- the 1-1-4 fast read: FF00h DWORD 1 bit 22 and DWORD 3
  pub quad_read : Option QuadRead
  -- the four-byte address instructions 13h, 6Ch, 12h, 34h: FF84h DWORD 1 bits 0, 4, 6, 7
  pub read4 : Bool
  pub quad_read4 : Bool
  pub program4 : Bool
  pub quad4 : Bool
  -- the quad program 32h, which no table of SFDP tells
  pub quad3 : Bool
  -- a byte may be programmed only where it is FFh: asked for by the user, told by no table
  pub erased_only : Bool

-- the erase kind of a number, where it is present; kinds count from 1
abbrev pub erase_kind : Parameters → ℕ → Option Erase
erase_kind m zero = None
erase_kind m (suc k) = option_and_then (λ slot. slot) (slice_get m.erases k)

-- the region allows the kind: bit 0 of its mask is kind 1
abbrev pub allows : Region → ℕ → Bool
allows region zero = false
allows region (suc k) = (region.kinds / 2 ^ k) % 2 == 1

-- a live kind is present, and some region allows it
abbrev pub is_live : Parameters → ℕ → Bool
is_live m kind = is_some (erase_kind m kind) && list_any (λ region. allows region kind) m.regions

-- the bytes of a block of the kind; 0 where it is absent
abbrev pub block_size : Parameters → ℕ → ℕ
block_size m kind = option_map_or (λ erase. erase.size) (erase_kind m kind) 0

-- the same parameters under the profile that programs erased bytes alone
abbrev pub erased_only_set : Parameters → Parameters
erased_only_set m = record m { erased_only = true }
