-- Bytes that are saved in a new file (this project's).
use Rattle.std.specs.Prelude.{ℕ, List, [], ◌∷◌, Option, Some, None, Result, Ok, Err}
use Rattle.std.specs.Io.KnownBytes.{Appends}
use Rattle.nor_job.specs.declared.fault.BuildFault.TheVariants as fault
use Rattle.norprog_common.specs.declared.faults.FileName.{FileName}
use Rattle.norprog_common.specs.declared.faults.Refusal.{Refusal}
use Rattle.norprog_common.specs.declared.faults.Refusal.TheVariants.{Build}
use Rattle.norprog_files.specs.Files.{Event, Denied, Denies, Lost, New, Sent}

-- how these bytes are saved in a file of this name
pub data Saves (path : List ℕ) (name : FileName) (bytes : List ℕ) : List Event → Result (Unit {0}) Refusal → Type 0 where
  -- none of the name was there: the one that was made took just these bytes, and all have gone out
  Saved : (begun ended : Option (List ℕ)) → Appends begun ended bytes → Saves path name bytes (New path begun ∷ Sent path ended ∷ []) (Ok tt)
  -- it can't be made
  Unmade : (why : Refusal) → Denies name why → Saves path name bytes (Denied path ∷ []) (Err why)
  -- some of it may not have gone out
  Unsent : (begun ended : Option (List ℕ)) → Saves path name bytes (New path begun ∷ Lost path ended ∷ []) (Err (Build fault.Write))

-- they are, where a name is given
pub data SavesIf : Option (List ℕ) → FileName → List ℕ → List Event → Result (Unit {0}) Refusal → Type 0 where
  Unnamed : (name : FileName) (bytes : List ℕ) → SavesIf None name bytes [] (Ok tt)
  Named : (path : List ℕ) (name : FileName) (bytes : List ℕ) (log : List Event) (result : Result (Unit {0}) Refusal) → Saves path name bytes log result
      → SavesIf (Some path) name bytes log result
