-- What is let through.
use Rattle.std.proofs.Common.{◌≡◌, ℕ, List, [], ◌∷◌, Result, Ok, Err, refl}
use Rattle.std.specs.declared.io.Error.{Error}
use Rattle.norprog_common.specs.declared.faults.FileName.{FileName}
use Rattle.norprog_common.specs.declared.faults.Refusal.{Refusal}
use Rattle.norprog_files.specs.declared.disk.FileId.{FileId}
use Rattle.norprog_files.specs.declared.disk.How.{How}
use Rattle.norprog_files.specs.declared.disk.Stat.{Stat}
use Rattle.norprog_files.specs.Disk.{Call, Opens}
use Rattle.norprog_files.specs.Files.{Denies}
use Rattle.norprog_files.specs.Guards.{EndsApart, EndsOpen, IsApart, IsOpen, IsOther, Unopened}

pub apart : {places : List FileId} {name : FileName} {found : Result Stat Error} → EndsApart places name found (Ok tt) → IsApart places found
apart (IsOther found is) = is

-- the one call by which a file is opened
pub opened : {F : Type 0} {path : List ℕ} {how : How} {name : FileName} {log : List (Call F)} {file : F} → EndsOpen path how name log (Ok file)
    → log ≡ Opens path how (Ok file) ∷ []
opened (IsOpen file) = refl

pub unopened : {F : Type 0} {path : List ℕ} {how : How} {name : FileName} {log : List (Call F)} {why : Refusal} → EndsOpen path how name log (Err why)
    → (result : Result F Error) × (log ≡ Opens path how result ∷ []) × Denies name why
unopened (Unopened error why denies) = (Err error, refl, denies)
