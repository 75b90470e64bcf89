-- What an output may be written over (this project's; the first bytes are those of docs/FORMATS.md).
use Rattle.std.specs.Prelude.{◌≡◌, ℕ, Bool, true, false, ◌&&◌, not, if◌then◌else◌, nat_eq, nat_lt, List, [], ◌∷◌, codes, take, length, slice_range, IfSome, Option, Some, None, Result, Ok, Err}
use Rattle.std.specs.Char.{is_ascii_hexdigit}
use Rattle.std.specs.List.{list_all, starts_with}
use Rattle.std.specs.declared.io.Error.{Error}
use Rattle.norprog_common.specs.declared.faults.FileName.{FileName}
use Rattle.norprog_common.specs.declared.faults.FileName.TheVariants as name
use Rattle.norprog_common.specs.declared.faults.Refusal.{Refusal}
use Rattle.norprog_common.specs.declared.faults.Refusal.TheVariants.{File}
use Rattle.norprog_common.specs.declared.given.OutFile.{OutFile}
use Rattle.norprog_files.specs.declared.disk.How.TheVariants.{Read}
use Rattle.norprog_files.specs.declared.disk.Kind.{Kind}
use Rattle.norprog_files.specs.declared.disk.Kind.TheVariants.{Regular}
use Rattle.norprog_files.specs.declared.disk.Stat.{Stat}
use Rattle.norprog_files.specs.declared.replaced.OutKind.{OutKind}
use Rattle.norprog_files.specs.declared.replaced.OutKind.TheVariants as out
use Rattle.norprog_files.specs.Disk.{Call, Opens}
use Rattle.norprog_files.specs.Files.{Denies}

-- the option that names a file of this kind
abbrev pub name_of : OutKind → FileName
name_of out.Picture = name.Map
name_of _ = name.Out

abbrev pub is_regular : Kind → Bool
is_regular Regular = true
is_regular _ = false

-- how many bytes would be lost of what is found, unless that may be written over: those of a regular file
abbrev pub at_risk : Bool → Result Stat Error → Option ℕ
at_risk force (Ok stat) = if is_regular stat.kind && (nat_lt 0 stat.len && not force) then Some stat.len else None
at_risk force (Err error) = None

-- a text begins as a record of Intel HEX does, with a colon and the digits of a length, an address and a type
abbrev pub begins_record : List ℕ → Bool
begins_record front = starts_with nat_eq front (codes ":") && (nat_lt 8 (length front) && list_all is_ascii_hexdigit (slice_range front 1 9))

-- a file of so many bytes that begins so is of this kind: a content by its size; a script, a waveform and a picture by the beginning of
-- their first line; HEX by its first record
abbrev pub is_alike : OutKind → ℕ → List ℕ → Bool
is_alike out.Script len front = starts_with nat_eq front (codes "norscript 1\n")
is_alike out.Hex len front = begins_record front
is_alike out.Waveform len front = starts_with nat_eq front (codes "$timescale ")
is_alike out.Picture len front = starts_with nat_eq front (codes "<svg ")
is_alike (out.Content size) len front = nat_eq len size

-- whether what is found at the name of an output is spared: it can be written over only if nothing would be lost, or if its first bytes,
-- which are read, show a file of the same kind. `remaining`: what an open file will give, where it says so
pub data Spares {F : Type 0} (remaining : F → Option (List ℕ)) (o : OutFile) (kind : OutKind) (found : Result Stat Error) : List (Call F) → Result Unit Refusal → Type 0
  where
    Free : at_risk o.force found ≡ None → Spares remaining o kind found [] (Ok tt)
    Alike : (len : ℕ) (file : F) (front : List ℕ) → at_risk o.force found ≡ Some len → IfSome (remaining file) (λ all. front ≡ take 12 all)
        → is_alike kind len front ≡ true → Spares remaining o kind found (Opens o.path.now Read (Ok file) ∷ []) (Ok tt)
    Unlike : (len : ℕ) (file : F) (front : List ℕ) → at_risk o.force found ≡ Some len → IfSome (remaining file) (λ all. front ≡ take 12 all)
        → is_alike kind len front ≡ false → Spares remaining o kind found (Opens o.path.now Read (Ok file) ∷ []) (Err (File (name_of kind)))
    Unknown : (len : ℕ) (result : Result F Error) (why : Refusal) → at_risk o.force found ≡ Some len → Denies (name_of kind) why
        → Spares remaining o kind found (Opens o.path.now Read result ∷ []) (Err why)
