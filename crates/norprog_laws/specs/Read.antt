-- Values worked out by hand of what texts and tables say: HEX, layouts, SFDP bytes, a chip's status and its page.
use Rattle.std.specs.Prelude.{◌≡◌, ℕ, ◌++◌, true, false, List, [], ◌∷◌, codes, map, replicate, Some, None, Ok, Err}
use Rattle.nor_base.specs.declared.meaning.Part.TheVariants.{Generic, W25q256jv}
use Rattle.nor_base.specs.declared.meaning.Switch.TheVariants.{Plain}
use Rattle.nor_base.specs.declared.meaning.Width.TheVariants.{Both}
use Rattle.nor_base.specs.declared.step.Step.TheVariants.{Send, Poll, Verify}
use Rattle.nor_base.specs.Array.{are_bytes}
use Rattle.nor_base.specs.Chip.{IsChipOf, IsPossible, may_page}
use Rattle.nor_base.specs.Device.{Finite, Gives}
use Rattle.nor_base.specs.Parameters.{Parameters}
use Rattle.nor_base.specs.Sample.{is_symbol}
use Rattle.nor_base.specs.Script.{IsScript}
use Rattle.nor_base.specs.Step.{is_step}
use Rattle.nor_base.specs.Uniform.{uniform_of}
use Rattle.nor_hex.specs.declared.fault.HexFault.TheVariants as hex
use Rattle.nor_hex.specs.Image.{address_of, base_after, base_in, byte_at, Puts}
use Rattle.nor_hex.specs.Record.{Record, record_of}
use Rattle.nor_hex.specs.Records.{line_records}
use Rattle.nor_job.specs.Causes.{LayoutSays}
use Rattle.nor_job.specs.Chip.{ChipSays, paged, uniform_says}
use Rattle.nor_job.specs.Status.{start_of, status_fault}
use Rattle.nor_job.specs.Task.{Task, Uniform, contradiction}
use Rattle.nor_job.specs.Wanted.{wanted}
use Rattle.nor_layout.specs.Chosen.{first_unknown, is_chosen}
use Rattle.nor_layout.specs.Region.{Region}
use Rattle.nor_layout.specs.Text.{cause_at, regions_of}
use Rattle.nor_lines.specs.Lines.{filled_lines}
use Rattle.nor_sfdp.specs.declared.fault.SfdpFault.TheVariants as sfdp
use Rattle.nor_sfdp.specs.Reading.{meaning_of}

-- a record of type `kind` at an offset, on this line
abbrev pub of_line : ℕ → ℕ → ℕ → List ℕ → Record
of_line line kind offset bytes = record { kind = kind; offset = offset; bytes = bytes; line = line }

-- `:02FFFF00A55A01`: the length 2, the offset FFFFh, the type 0, A5h and 5Ah; all its bytes add up to 300h, 0 modulo 256. A digit
-- less, another sum and a type past 05 are refused
pub record AreRecords : Type 0 where
  pub of_data : record_of 3 (codes ":02FFFF00A55A01") ≡ Ok (of_line 3 0 0xFFFF (0xA5 ∷ 0x5A ∷ []))
  pub end : record_of 1 (codes ":00000001FF") ≡ Ok (of_line 1 1 0 [])
  pub colon : record_of 1 (codes "00000001FF") ≡ Err (hex.NoColon 1)
  pub digit : record_of 1 (codes ":00000001FG") ≡ Err (hex.BadDigit 1)
  pub shorter : record_of 2 (codes ":0000001FF") ≡ Err (hex.BadLength 2)
  pub sum : record_of 2 (codes ":00000001FE") ≡ Err (hex.BadSum 2)
  pub kind : record_of 2 (codes ":00000006FA") ≡ Err (hex.BadType 2)

-- a text of three lines, of which the first has blanks at its end and the second has nothing else; a blank before a colon isn't allowed
pub record AreLinesRead : Type 0 where
  pub each : line_records (codes ":0100000001FE \r\n\t\n:00000001FF") ≡ map Ok (of_line 1 0 0 (1 ∷ []) ∷ of_line 3 1 0 [] ∷ [])
  pub blank_first : line_records (codes " :00000001FF") ≡ Err (hex.NoColon 1) ∷ []

-- the records of the linear base 0800h, of the segment 1000h and of the linear base FFFFh
abbrev pub linear : Record
linear = of_line 1 4 0 (0x08 ∷ 0x00 ∷ [])

abbrev pub segment : Record
segment = of_line 3 2 0 (0x10 ∷ 0x00 ∷ [])

abbrev pub last_linear : Record
last_linear = of_line 1 4 0 (0xFF ∷ 0xFF ∷ [])

-- behind the linear base the offset FFFFh lies at 0800FFFFh, and the next byte one higher; behind the segment at 1FFFFh, and the next
-- byte wraps to 10000h; past FFFFFFFFh comes 0. Before any base the linear base 0 rules, and of several the last
pub record AreAddresses : Type 0 where
  pub of_linear : map (address_of (base_in linear)) (0xFFFF ∷ 0x10000 ∷ []) ≡ 0x0800FFFF ∷ 0x08010000 ∷ []
  pub of_segment : map (address_of (base_in segment)) (0xFFFF ∷ 0x10000 ∷ []) ≡ 0x1FFFF ∷ 0x10000 ∷ []
  pub past_the_end : map (address_of (base_in last_linear)) (0xFFFF ∷ 0x10000 ∷ []) ≡ 0xFFFFFFFF ∷ 0 ∷ []
  pub without : address_of (base_after []) 0x10000 ≡ 0x10000
  pub last : address_of (base_after (linear ∷ of_line 2 0 0 (1 ∷ []) ∷ segment ∷ [])) 0x10000 ≡ 0x10000
  -- the byte of the second record goes behind the base of the first
  pub puts : Puts (linear ∷ of_line 2 0 5 (0xAB ∷ []) ∷ []) 0x08000005 0xAB
  pub there : byte_at ((3, 7) ∷ (9, 8) ∷ []) 9 ≡ Some 8
  pub nowhere : byte_at ((3, 7) ∷ (9, 8) ∷ []) 4 ≡ None

abbrev pub boot : Region
boot = record { start = 0; end = 0xFFF; name = codes "boot" }

abbrev pub config : Region
config = record { start = 0x1000; end = 0x1FFF; name = codes "config" }

-- two regions, a remark between them
abbrev pub layout : List ℕ
layout = codes "0000:0fff boot\n# free\n 0x1000:1FFF\tconfig \n"

pub record AreRegionsRead : Type 0 where
  pub each : regions_of (filled_lines layout) ≡ boot ∷ config ∷ []
  pub sound : cause_at (filled_lines layout) 0 ≡ None
  pub sound_too : cause_at (filled_lines layout) 2 ≡ None
  pub known : first_unknown (boot ∷ config ∷ []) (codes "config" ∷ []) ≡ None
  pub unknown : first_unknown (boot ∷ config ∷ []) (codes "config" ∷ codes "bios" ∷ []) ≡ Some 1
  pub both_ends : map (is_chosen (boot ∷ config ∷ []) (codes "config" ∷ [])) (0xFFF ∷ 0x1000 ∷ 0x1FFF ∷ 0x2000 ∷ []) ≡ false ∷ true ∷ true ∷ false ∷ []
  pub whole : is_chosen [] [] 0x2000 ≡ true

-- the SFDP bytes of a chip of 8 KiB with 4 KiB sectors by 20h: what follows the two headers is the basic table
abbrev pub small : List ℕ
small =
    0x53 ∷ 0x46 ∷ 0x44 ∷ 0x50 ∷ 0x06 ∷ 0x01 ∷ 0x00 ∷ 0xFF ∷ 0x00 ∷ 0x06 ∷ 0x01 ∷ 0x10 ∷ 0x10 ∷ 0x00 ∷ 0x00 ∷ 0xFF
    ∷ 0x05 ∷ 0x20 ∷ 0x00 ∷ 0x00 ∷ 0xFF ∷ 0xFF ∷ 0x00 ∷ 0x00 ∷ (replicate 20 0 ++ (0x0C ∷ 0x20 ∷ 0x00 ∷ 0xFF ∷ 0x00 ∷ 0xFF ∷ 0x00 ∷ 0xFF
    ∷ 0 ∷ 0 ∷ 0 ∷ 0 ∷ 0x80 ∷ replicate 23 0))

-- and of one of 64 KiB with a sector map: 4 KiB where 4 KiB sectors may be erased, and 60 KiB where 64 KiB blocks may be
abbrev pub mapped : List ℕ
mapped =
    0x53 ∷ 0x46 ∷ 0x44 ∷ 0x50 ∷ 0x06 ∷ 0x01 ∷ 0x01 ∷ 0xFF ∷ 0x00 ∷ 0x06 ∷ 0x01 ∷ 0x10 ∷ 0x18 ∷ 0x00 ∷ 0x00 ∷ 0xFF
    ∷ 0x81 ∷ 0x00 ∷ 0x01 ∷ 0x03 ∷ 0x58 ∷ 0x00 ∷ 0x00 ∷ 0xFF ∷ 0x05 ∷ 0x20 ∷ 0x00 ∷ 0x00 ∷ 0xFF ∷ 0xFF ∷ 0x07 ∷ 0x00
    ∷ (replicate 20 0 ++ (0x0C ∷ 0x20 ∷ 0x10 ∷ 0xD8 ∷ 0x00 ∷ 0xFF ∷ 0x00 ∷ 0xFF ∷ 0 ∷ 0 ∷ 0 ∷ 0 ∷ 0x80 ∷ (replicate 23 0
    ++ (0x03 ∷ 0x00 ∷ 0x01 ∷ 0x00 ∷ 0x01 ∷ 0x0F ∷ 0x00 ∷ 0x00 ∷ 0x02 ∷ 0xEF ∷ 0x00 ∷ 0x00 ∷ []))))

abbrev pub mapped_says : Parameters
mapped_says = record (uniform_of 65536) {
  erases = Some (record { size = 4096; op = 0x20; op4 = None }) ∷ Some (record { size = 65536; op = 0xD8; op4 = None }) ∷ None ∷ None ∷ [];
  regions = record { size = 4096; kinds = 1 } ∷ record { size = 61440; kinds = 2 } ∷ [];
}

-- and of one of 32 MiB: two widths, three kinds, a four-byte address instruction table
abbrev pub large : List ℕ
large =
    0x53 ∷ 0x46 ∷ 0x44 ∷ 0x50 ∷ 0x06 ∷ 0x01 ∷ 0x01 ∷ 0xFF ∷ 0x00 ∷ 0x06 ∷ 0x01 ∷ 0x10 ∷ 0x18 ∷ 0x00 ∷ 0x00 ∷ 0xFF
    ∷ 0x84 ∷ 0x00 ∷ 0x01 ∷ 0x02 ∷ 0x58 ∷ 0x00 ∷ 0x00 ∷ 0xFF ∷ 0x05 ∷ 0x20 ∷ 0x42 ∷ 0x00 ∷ 0xFF ∷ 0xFF ∷ 0xFF ∷ 0x0F
    ∷ 0x00 ∷ 0x00 ∷ 0x08 ∷ 0x6B ∷ (replicate 16 0 ++ (0x0C ∷ 0x20 ∷ 0x0F ∷ 0x52 ∷ 0x10 ∷ 0xD8 ∷ 0x00 ∷ 0xFF ∷ 0 ∷ 0 ∷ 0 ∷ 0 ∷ 0x80
    ∷ (replicate 19 0 ++ (0x00 ∷ 0x40 ∷ 0x00 ∷ 0x01 ∷ 0xD1 ∷ 0x0A ∷ 0x00 ∷ 0x00 ∷ 0x21 ∷ 0xFF ∷ 0xDC ∷ 0xFF ∷ []))))

abbrev pub large_says : Parameters
large_says = record {
  size = 33554432;
  page = 256;
  open_page = false;
  width = Both;
  erases =
      Some (record { size = 4096; op = 0x20; op4 = Some 0x21 }) ∷ Some (record { size = 32768; op = 0x52; op4 = None })
      ∷ Some (record { size = 65536; op = 0xD8; op4 = Some 0xDC }) ∷ None ∷ [];
  regions = record { size = 33554432; kinds = 15 } ∷ [];
  enter = Plain;
  leave = Plain;
  quad_read = Some (record { op = 0x6B; dummies = 8 });
  read4 = true;
  quad_read4 = true;
  program4 = true;
  quad4 = true;
  quad3 = true;
  erased_only = false;
}

pub record AreMeanings : Type 0 where
  pub of_small : meaning_of small [] Generic ≡ Ok (uniform_of 8192)
  pub of_mapped : meaning_of mapped [] Generic ≡ Ok mapped_says
  pub of_large : meaning_of large [] W25q256jv ≡ Ok large_says
  pub unsigned : meaning_of (codes "SFPD") [] Generic ≡ Err sfdp.Signature
  pub cut : meaning_of (codes "SFDP") [] Generic ≡ Err sfdp.Truncated

-- a job on a chip of this size and no more
abbrev pub plain : ℕ → Task
plain size = record {
  hex = [];
  image = None;
  layout = None;
  regions = [];
  chip = Uniform size;
  part = Generic;
  status = None;
  mode4 = false;
  quad = false;
  base = 0;
  verify = false;
  erased_only = false;
  page = None;
}

-- bits 0, 1, 15 and 3 of a status; bits 9 and 16; the four contradictions; sizes; the page where only its least is known
pub record AreStates : Type 0 where
  pub busy : status_fault (Some 1) ≡ Some 1
  pub latched : status_fault (Some 2) ≡ Some 2
  pub suspended : status_fault (Some 0x8000) ≡ Some 3
  pub protected : status_fault (Some 8) ≡ Some 4
  pub idle : status_fault (Some 0x010200) ≡ None
  pub untold : status_fault None ≡ None
  pub begins : start_of (record (plain 8192) { status = Some 0x010200 }) ≡ record { mode4 = true; quad = true }
  pub flags : start_of (record (plain 8192) { quad = true }) ≡ record { mode4 = false; quad = true }
  pub no_layout : contradiction (record (plain 8192) { regions = codes "boot" ∷ [] }) ≡ Some 1
  pub no_part : contradiction (record (plain 8192) { status = Some 0 }) ≡ Some 2
  pub said_twice : contradiction (record (plain 8192) { status = Some 0; part = W25q256jv; quad = true }) ≡ Some 3
  pub of_a_part : contradiction (record (plain 8192) { part = W25q256jv }) ≡ Some 4
  pub consistent : contradiction (plain 8192) ≡ None
  pub says : ChipSays (plain 8192) (uniform_of 8192)
  pub says_erased : ChipSays (record (plain 8192) { erased_only = true }) (record (uniform_of 8192) { erased_only = true })
  pub says_page : paged (Some 512) (record (uniform_of 8192) { page = 64; open_page = true }) ≡ Some (record (uniform_of 8192) { page = 512 })
  pub no_page : paged (Some 512) (uniform_of 8192) ≡ None
  pub no_size : uniform_says 8193 ≡ Err sfdp.Density
  pub page : map (may_page (uniform_of 8192)) (128 ∷ 256 ∷ 512 ∷ []) ≡ false ∷ true ∷ false ∷ []
  pub open_page :
      map (may_page (record (uniform_of 8192) { page = 64; open_page = true })) (32 ∷ 64 ∷ 96 ∷ 256 ∷ 4096 ∷ 8192 ∷ []) ≡ false ∷ true ∷ false ∷ true ∷ true ∷ false ∷ []

-- bytes and symbols and what is none; which steps a script may have; the text of one step; what a reader gives; a chip of a meaning,
-- whatever its busy times; what a chip must hold where an image has one byte
pub record ArePlain : Type 0 where
  pub bytes : map are_bytes ((0 ∷ 255 ∷ []) ∷ (256 ∷ []) ∷ []) ≡ true ∷ false ∷ []
  pub symbols : map is_symbol (codes "0ap.=-q2 ") ≡ true ∷ true ∷ true ∷ true ∷ true ∷ true ∷ false ∷ false ∷ false ∷ []
  pub steps :
      map is_step (Send (codes "01") ∷ Send [] ∷ Poll (codes "0x") ∷ Verify (codes "01") [] ∷ Verify (codes "01") (5 ∷ []) ∷ [])
      ≡ true ∷ false ∷ false ∷ false ∷ true ∷ []
  pub script : IsScript (codes "norscript 1\nv 01 05\nend 1\n") (Verify (codes "01") (5 ∷ []) ∷ [])
  pub gives : Gives (Finite (1 ∷ 2 ∷ 3 ∷ [])) (1 ∷ 2 ∷ []) (Finite (3 ∷ []))
  pub chip : IsChipOf (uniform_of 8192) (record { mode4 = false; quad = true }) (record {
    meaning = uniform_of 8192;
    start = record { mode4 = false; quad = true };
    page = 256;
    busy = 3 ∷ [];
    keeps = true;
  })
  pub possible : IsPossible (uniform_of 8192) (record { mode4 = false; quad = true })
  pub wanted : wanted (plain 4096) ((1, 7) ∷ []) [] (0 ∷ 0 ∷ 0 ∷ []) ≡ 0 ∷ 7 ∷ 0 ∷ []
  pub layout : LayoutSays (Some layout) (boot ∷ config ∷ [])
  pub no_layout : LayoutSays None []
