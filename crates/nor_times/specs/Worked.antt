-- Values worked out by hand.
use Rattle.std.specs.Prelude.{◌≡◌, ℕ, ◌++◌, true, false, List, [], ◌∷◌, codes, replicate, Option, Some, None}
use Rattle.nor_base.specs.declared.meaning.Erase.{Erase}
use Rattle.nor_base.specs.declared.meaning.Start.{Start}
use Rattle.nor_base.specs.declared.meaning.Switch.TheVariants.{Plain, Latched}
use Rattle.nor_base.specs.declared.meaning.Width.TheVariants.{Both}
use Rattle.nor_base.specs.Parameters.{Parameters}
use Rattle.nor_base.specs.Uniform.{uniform_of}
use Rattle.nor_outline.specs.declared.line.PlanLine.{PlanLine}
use Rattle.nor_outline.specs.declared.line.PlanLine.TheVariants as line
use Rattle.nor_times.specs.declared.times.Times.{Times}
use Rattle.nor_times.specs.declared.busy.Busy.{Busy}
use Rattle.nor_times.specs.Times.{times_by, times_in}
use Rattle.nor_times.specs.Busy.{program_time, busy_of}
use Rattle.nor_times.specs.Bus.{bus_of}
use Rattle.nor_times.specs.Text.{times_text}

-- DWORD 10 is 00A60236h and DWORD 11 E214EA82h: 64, 128 and 160 ms, and 14 times that; 704 us, and 6 times that; 32 us for a
-- program's first byte and 3 us for each further one. The fourth kind, which such a chip doesn't have, says 1 ms
abbrev pub told : Times
told = record {
  erases = 64000 ∷ 128000 ∷ 160000 ∷ 1000 ∷ [];
  erase_factor = 14;
  page = 704;
  first_byte = 32;
  further_byte = 3;
  program_factor = 6;
}

-- nine DWORDs, and the two, or one of them
abbrev pub ten_dwords : List ℕ
ten_dwords = replicate 36 0 ++ (0x36 ∷ 0x02 ∷ 0xA6 ∷ 0x00 ∷ [])

abbrev pub eleven_dwords : List ℕ
eleven_dwords = ten_dwords ++ (0x82 ∷ 0xEA ∷ 0x14 ∷ 0xE2 ∷ [])

pub record IsTableRead : Type 0 where
  pub by_dwords : times_by 0x00A60236 0xE214EA82 ≡ told
  pub by_table : times_in eleven_dwords ≡ Some told
  pub too_short : times_in ten_dwords ≡ None

-- all bits 0, all bits 1
abbrev pub least : Times
least = record { erases = 1000 ∷ 1000 ∷ 1000 ∷ 1000 ∷ []; erase_factor = 2; page = 8; first_byte = 1; further_byte = 1; program_factor = 2 }

abbrev pub greatest : Times
greatest = record {
  erases = 32000000 ∷ 32000000 ∷ 32000000 ∷ 32000000 ∷ [];
  erase_factor = 32;
  page = 2048;
  first_byte = 128;
  further_byte = 128;
  program_factor = 32;
}

pub record IsTableAtEnds : Type 0 where
  pub by_zeros : times_by 0 0 ≡ least
  pub by_ones : times_by 0xFFFFFFFF 0xFFFFFFFF ≡ greatest

-- a program of 225 bytes takes as long as a page, and one of more no longer
pub record AreProgramsWorked : Type 0 where
  pub of_none : program_time told 0 ≡ 0
  pub of_one : program_time told 1 ≡ 32
  pub of_two : program_time told 2 ≡ 35
  pub of_most : program_time told 224 ≡ 701
  pub of_as_long : program_time told 225 ≡ 704
  pub of_a_page : program_time told 256 ≡ 704

-- a chip of 64 KiB with the kinds of such times, each by an opcode and by a dedicated one
abbrev pub kind_of : ℕ → ℕ → ℕ → Option Erase
kind_of size op op4 = Some (record { size = size; op = op; op4 = Some op4 })

abbrev pub three_kinds : Parameters
three_kinds = record (uniform_of 0x10000) { erases = kind_of 0x1000 0x20 0x21 ∷ kind_of 0x8000 0x52 0x5C ∷ kind_of 0x10000 0xD8 0xDC ∷ None ∷ [] }

-- 64000 + 704 + 32 + 128000; 14 times the erases and 6 times the programs
abbrev pub some_lines : List PlanLine
some_lines =
    line.Erase 0 0x1000 0x20 ∷ line.Because 0 5 ∷ line.Program 0 256 ∷ line.Program 0x100 1 ∷ line.Erase 0x8000 0x8000 0x5C ∷ line.Because 0x8000 0x8000 ∷ []

abbrev pub some_busy : Busy
some_busy = record { typical = 192736; worst = 2692416 }

-- an opcode that names no kind takes no time; the fourth kind is absent
pub record AreSumsWorked : Type 0 where
  pub of_some : busy_of told three_kinds some_lines ≡ some_busy
  pub of_last : busy_of told three_kinds (line.Erase 0 0x10000 0xDC ∷ []) ≡ record { typical = 160000; worst = 2240000 }
  pub of_another : busy_of told three_kinds (line.Erase 0 0x10000 0x60 ∷ []) ≡ record { typical = 0; worst = 0 }
  pub of_none : busy_of told three_kinds [] ≡ record { typical = 0; worst = 0 }

abbrev pub plain_start : Start
plain_start = record { mode4 = false; quad = false }

abbrev pub quad_start : Start
quad_start = record { mode4 = false; quad = true }

-- a block, a program in it, and one past it
abbrev pub work_lines : List PlanLine
work_lines = line.Erase 0 0x1000 0x20 ∷ line.Because 0 0 ∷ line.Program 0 256 ∷ line.Program 0x2000 1 ∷ []

-- a chip with four-byte mode, entered after a write enable and left by the opcode alone; one with quad instructions
abbrev pub switched : Parameters
switched = record (uniform_of 0x2000000) { width = Both; enter = Latched; leave = Plain }

abbrev pub on_four_lanes : Parameters
on_four_lanes = record (uniform_of 0x10000) { quad_read = Some (record { op = 0x6B; dummies = 8 }); quad3 = true }

pub record AreClocksWorked : Type 0 where
  -- 8 + 32 + 16, 8 + 32 + 2048 + 16, 8 + 32 + 8 + 16
  pub of_work : bus_of (uniform_of 0x10000) plain_start false work_lines ≡ 2224
  -- and 16 pages of 32 + 2048, and 32 + 8
  pub of_verified : bus_of (uniform_of 0x10000) plain_start true work_lines ≡ 35544
  -- 24 + 8, and 8 + 40 + 16 + 16
  pub of_switched : bus_of switched plain_start false (line.Program 0x1000000 2 ∷ []) ≡ 112
  pub of_nothing : bus_of switched plain_start false (line.Because 0 0 ∷ []) ≡ 0
  -- 8 + 32 + 512 + 16, and 32 + 8 + 512
  pub of_quad : bus_of on_four_lanes quad_start true (line.Program 0 256 ∷ []) ≡ 1120

pub record AreLinesWorked : Type 0 where
  pub of_known : times_text (Some some_busy) 35544 ≡ codes "busy 193 ms typical 2693 ms worst\nbus 35544 clocks\n"
  pub of_whole : times_text (Some (record { typical = 64000; worst = 896000 })) 8 ≡ codes "busy 64 ms typical 896 ms worst\nbus 8 clocks\n"
  pub of_unknown : times_text None 0 ≡ codes "busy unknown\nbus 0 clocks\n"
