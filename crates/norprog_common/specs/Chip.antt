-- Where the meaning of a chip comes from, as the options say it (this project's).
use Rattle.std.specs.Prelude.{ℕ, Option, Some, None, option_map, unwrap_or, List, []}
use Rattle.nor_job.specs.Task as job
use Rattle.norprog_common.specs.declared.chip.Chip.{Chip}
use Rattle.norprog_common.specs.declared.chip.Chip.TheVariants as chip
use Rattle.norprog_common.specs.Values.{decimal_of}

-- the name of a file of SFDP bytes, with configuration bits; a size; or the name of a file with a sheet
pub data Origin : Type 0 where
  Sfdp : List ℕ → List ℕ → Origin
  Uniform : ℕ → Origin
  Sheet : List ℕ → Origin

abbrev pub origin_of : Chip → Origin
origin_of (chip.Sfdp file bits) = Sfdp file.now bits.now
origin_of (chip.Uniform size) = Uniform size
origin_of (chip.Sheet file) = Sheet file.now

-- what `--sfdp`, `--uniform`, `--sheet` and `--bits` say together: exactly one of the first three, and bits only beside SFDP bytes
abbrev pub chosen_origin : Option (List ℕ) → Option (List ℕ) → Option (List ℕ) → Option (List ℕ) → Option Origin
chosen_origin (Some file) None None bits = Some (Sfdp file (unwrap_or bits []))
chosen_origin (Some file) None (Some sheet) bits = None
chosen_origin (Some file) (Some size) sheet bits = None
chosen_origin None (Some size) None None = option_map Uniform (decimal_of size)
chosen_origin None (Some size) None (Some bits) = None
chosen_origin None (Some size) (Some sheet) bits = None
chosen_origin None None (Some file) None = Some (Sheet file)
chosen_origin None None (Some file) (Some bits) = None
chosen_origin None None None bits = None

-- the chip as a task has it: the bytes of its tables with the bits that are asked for, its size, or the text of its sheet
abbrev pub task_chip : Origin → List ℕ → job.Origin
task_chip (Sfdp file bits) tables = job.Sfdp tables bits
task_chip (Uniform size) tables = job.Uniform size
task_chip (Sheet file) text = job.Sheet text
