-- The calls of the system on files (POSIX: stat, open, fstat, fsync).
use Rattle.std.specs.Prelude.{◌≡◌, ℕ, true, ◌/◌, ◌%◌, List, Result}
use Rattle.std.specs.Fs.{new_options, with_create, with_create_new, with_read, with_truncate, with_write}
use Rattle.std.specs.declared.fs.OpenOptions.{OpenOptions}
use Rattle.std.specs.declared.io.Error.{Error}
use Rattle.norprog_files.specs.declared.disk.How.{How}
use Rattle.norprog_files.specs.declared.disk.How.TheVariants.{Read, Empty, Anew, Write}
use Rattle.norprog_files.specs.declared.disk.Kind.{Kind}
use Rattle.norprog_files.specs.declared.disk.Kind.TheVariants.{Regular, Folder, Characters, Other}
use Rattle.norprog_files.specs.declared.disk.Stat.{Stat}

-- one call, and what came of it. `Asks`: what the file of a name is (stat). `Opens`: a file is opened by its name (open). `Looks`: what an
-- open file is (fstat). `Syncs`: all that was written to an open file goes to its storage device (fsync)
pub data Call (F : Type 0) : Type 0 where
  Asks : List ℕ → Result Stat Error → Call F
  Opens : List ℕ → How → Result F Error → Call F
  Looks : F → Result Stat Error → Call F
  Syncs : F → Result Unit Error → Call F

-- to be read: O_RDONLY. To be emptied: O_WRONLY, O_CREAT and O_TRUNC. Anew: O_WRONLY, O_CREAT and O_EXCL, so open fails where the name is
-- there. To be written: O_WRONLY, by which none is made or emptied
abbrev pub options_of : How → OpenOptions
options_of Read = with_read new_options true
options_of Empty = with_truncate (with_create (with_write new_options true) true) true
options_of Anew = with_create_new (with_write new_options true) true
options_of Write = with_write new_options true

-- bits 12 to 15 of a file's mode tell its kind: 8 is a regular file, 4 a directory, 2 a character device (POSIX, S_IFMT)
abbrev pub HasKind : ℕ → Kind → Type 0
HasKind mode Regular = mode / 4096 % 16 ≡ 8
HasKind mode Folder = mode / 4096 % 16 ≡ 4
HasKind mode (Characters device) = mode / 4096 % 16 ≡ 2
HasKind mode Other = ((mode / 4096 % 16 ≡ 8 → ⊥) × (mode / 4096 % 16 ≡ 4 → ⊥) × (mode / 4096 % 16 ≡ 2 → ⊥))
