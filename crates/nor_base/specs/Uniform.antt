-- A chip that needs no SFDP: one region of 4 KiB sectors.
use Rattle.std.specs.Prelude.{◌≡◌, ℕ, false, ◌≤◌, ◌%◌, ◌^◌, [], ◌∷◌, Some, None}
use Rattle.nor_base.specs.declared.meaning.Width.TheVariants.{Three}
use Rattle.nor_base.specs.declared.meaning.Switch.TheVariants.{Absent}
use Rattle.nor_base.specs.Parameters.{Parameters}

-- a multiple of 4096 from 4096 to 16 MiB
pub record IsUniformSize (size : ℕ) : Type 0 where
  pub low : 4096 ≤ size
  pub high : size ≤ 2 ^ 24
  pub whole : size % 4096 ≡ 0

-- 4 KiB sectors erased by 20h, a page of 256 bytes, three address bytes
abbrev pub uniform_of : ℕ → Parameters
uniform_of size = record {
  size = size;
  page = 256;
  open_page = false;
  width = Three;
  erases = Some (record { size = 4096; op = 0x20; op4 = None }) ∷ None ∷ None ∷ None ∷ [];
  regions = record { size = size; kinds = 15 } ∷ [];
  enter = Absent;
  leave = Absent;
  quad_read = None;
  read4 = false;
  quad_read4 = false;
  program4 = false;
  quad4 = false;
  quad3 = false;
  erased_only = false;
}
