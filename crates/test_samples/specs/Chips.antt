-- What SFDP says of the sample chips.
use Rattle.std.specs.Prelude.{ℕ, Bool, true, false, List, [], ◌∷◌, Option, Some, None}
use Rattle.std.specs.Bool.{then_some}
use Rattle.nor_base.specs.declared.meaning.Erase.{Erase}
use Rattle.nor_base.specs.declared.meaning.Region.{Region}
use Rattle.nor_base.specs.declared.meaning.Switch.{Switch}
use Rattle.nor_base.specs.declared.meaning.Switch.TheVariants.{Absent, Plain, Latched}
use Rattle.nor_base.specs.declared.meaning.Width.TheVariants.{Three, Both}
use Rattle.nor_base.specs.Parameters.{Parameters}

-- 8 KiB in sectors of 4 KiB
abbrev pub small : Parameters
small = record {
  size = 8192;
  page = 256;
  open_page = false;
  width = Three;
  erases = Some (record { size = 4096; op = 0x20; op4 = None }) ∷ None ∷ None ∷ None ∷ [];
  regions = record { size = 8192; kinds = 15 } ∷ [];
  enter = Absent;
  leave = Absent;
  quad_read = None;
  read4 = false;
  quad_read4 = false;
  program4 = false;
  quad4 = false;
  quad3 = false;
  erased_only = false;
}

-- the same, of whose page no more is known than that it is 64 bytes or larger
abbrev pub small_open_page : Parameters
small_open_page = record small { page = 64; open_page = true }

-- the same, where only erased bytes may be programmed
abbrev pub small_erased_only : Parameters
small_erased_only = record small { erased_only = true }

-- the same, but for its size, erase kinds and regions
abbrev pub plain : ℕ → List (Option Erase) → List Region → Parameters
plain size erases map = record small { size = size; erases = erases; regions = map }

-- 64 KiB: 4 KiB for kind 1, and 60 KiB for kind 2, whose blocks fit nowhere
abbrev pub mapped : Parameters
mapped = plain 65536
    (Some (record { size = 4096; op = 0x20; op4 = None }) ∷ Some (record { size = 65536; op = 0xD8; op4 = None }) ∷ None ∷ None ∷ [])
    (record { size = 4096; kinds = 1 } ∷ record { size = 61440; kinds = 2 } ∷ [])

-- 32 MiB: how its address mode is switched, whether it has a four-byte address instruction table, and whether it takes
-- quad programs by 32h
abbrev pub large_by : Switch → Bool → Bool → Parameters
large_by switch dedicated quad3 = record {
  size = 33554432;
  page = 256;
  open_page = false;
  width = Both;
  erases = Some (record { size = 4096; op = 0x20; op4 = then_some dedicated 0x21 })
      ∷ Some (record { size = 32768; op = 0x52; op4 = None })
      ∷ Some (record { size = 65536; op = 0xD8; op4 = then_some dedicated 0xDC })
      ∷ None
      ∷ [];
  regions = record { size = 33554432; kinds = 15 } ∷ [];
  enter = switch;
  leave = switch;
  quad_read = Some (record { op = 0x6B; dummies = 8 });
  read4 = dedicated;
  quad_read4 = dedicated;
  program4 = dedicated;
  quad4 = dedicated;
  quad3 = quad3;
  erased_only = false;
}

abbrev pub large : Parameters
large = large_by Plain true false

-- the large chip as a W25Q256JV
abbrev pub large_w25q256jv : Parameters
large_w25q256jv = large_by Plain true true

-- the large chip, its mode switched after a write enable
abbrev pub large_latched : Parameters
large_latched = large_by Latched true false

-- the large chip without its four-byte address instruction table
abbrev pub large_legacy : Parameters
large_legacy = large_by Plain false false

-- as a W25Q256JV: its quad program is 32h
abbrev pub large_legacy_w25q256jv : Parameters
large_legacy_w25q256jv = large_by Plain false true

-- the same, its mode switched after a write enable
abbrev pub large_legacy_latched : Parameters
large_legacy_latched = large_by Latched false false

-- 32 MiB of two regions whose border is 4 KiB below 2^24: sectors of two kinds and blocks; whether the second kind has an
-- opcode with four address bytes, and how four-byte mode is left
abbrev pub twin : Bool → Switch → Parameters
twin dedicated leave = record {
  size = 0x2000000;
  page = 256;
  open_page = false;
  width = Both;
  erases = Some (record { size = 4096; op = 0x20; op4 = None })
      ∷ Some (record { size = 4096; op = 0xD7; op4 = then_some dedicated 0x21 })
      ∷ Some (record { size = 65536; op = 0xD8; op4 = Some 0xDC })
      ∷ None
      ∷ [];
  regions = record { size = 0xFFF000; kinds = 15 } ∷ record { size = 0x1001000; kinds = 15 } ∷ [];
  enter = Plain;
  leave = leave;
  quad_read = None;
  read4 = true;
  quad_read4 = false;
  program4 = true;
  quad4 = false;
  quad3 = false;
  erased_only = false;
}
