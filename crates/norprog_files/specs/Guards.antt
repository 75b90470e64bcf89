-- When a file is opened, made or emptied, and by which calls of the system (POSIX: stat, open, fstat, fsync; Linux: proc_tty(5)).
use Rattle.std.specs.Prelude.{◌≡◌, ℕ, List, [], ◌∷◌, ◌++◌, codes, All, IfSome, Option, Result, Ok, Err}
use Rattle.std.specs.Io.Buffered.{reader_inner, writer_buffer, writer_inner}
use Rattle.std.specs.IoError.{error_kind}
use Rattle.std.specs.declared.io.BufReader.{BufReader}
use Rattle.std.specs.declared.io.BufWriter.{BufWriter}
use Rattle.std.specs.declared.io.Error.{Error}
use Rattle.std.specs.declared.io.ErrorKind.TheVariants.{NotFound}
use Rattle.nor_job.specs.declared.fault.BuildFault.TheVariants as fault
use Rattle.norprog_common.specs.declared.faults.FileName.{FileName}
use Rattle.norprog_common.specs.declared.faults.FileName.TheVariants as name
use Rattle.norprog_common.specs.declared.faults.Refusal.{Refusal}
use Rattle.norprog_common.specs.declared.faults.Refusal.TheVariants.{File, Build}
use Rattle.norprog_common.specs.declared.given.OutFile.{OutFile}
use Rattle.norprog_files.specs.declared.disk.FileId.{FileId}
use Rattle.norprog_files.specs.declared.disk.How.{How}
use Rattle.norprog_files.specs.declared.disk.How.TheVariants.{Read, Empty, Write}
use Rattle.norprog_files.specs.declared.disk.Kind.{Kind}
use Rattle.norprog_files.specs.declared.disk.Kind.TheVariants as kind
use Rattle.norprog_files.specs.declared.disk.Stat.{Stat}
use Rattle.norprog_files.specs.Disk.{Call, Asks, Opens, Looks, Syncs}
use Rattle.norprog_files.specs.Files.{Denies}
use Rattle.norprog_files.specs.Replaced.{Spares, name_of}
use Rattle.norprog_files.specs.declared.replaced.OutKind.{OutKind}
use Rattle.norprog_files.specs.Terminal.{IsListed}

-- the file of a name is opened so, or it can't be
pub data EndsOpen {F : Type 0} (path : List ℕ) (how : How) (name : FileName) : List (Call F) → Result F Refusal → Type 0 where
  IsOpen : (file : F) → EndsOpen path how name (Opens path how (Ok file) ∷ []) (Ok file)
  Unopened : (error : Error) (why : Refusal) → Denies name why → EndsOpen path how name (Opens path how (Err error) ∷ []) (Err why)

-- and then it is asked what the open file is
pub data EndsLook {F : Type 0} (path : List ℕ) (how : How) (name : FileName) : List (Call F) → Result (F × Stat) Refusal → Type 0 where
  IsSeen : (file : F) (stat : Stat) → EndsLook path how name (Opens path how (Ok file) ∷ Looks file (Ok stat) ∷ []) (Ok (file, stat))
  Unseen : (file : F) (error : Error) (why : Refusal) → Denies name why
      → EndsLook path how name (Opens path how (Ok file) ∷ Looks file (Err error) ∷ []) (Err why)
  Unreached : (error : Error) (why : Refusal) → Denies name why → EndsLook path how name (Opens path how (Err error) ∷ []) (Err why)

-- a file is opened to be read: no directory is. Where it is, which file it is counts among those that were opened
pub data EndsInput {F : Type 0} (path : List ℕ) (name : FileName) : List (Call F) → List FileId → Result (F × ℕ) Refusal → Type 0 where
  IsInput : (file : F) (stat : Stat) (log : List (Call F)) → EndsLook path Read name log (Ok (file, stat)) → (stat.kind ≡ kind.Folder → ⊥)
      → EndsInput path name log (stat.id ∷ []) (Ok (file, stat.len))
  IsFolder : (file : F) (stat : Stat) (log : List (Call F)) → EndsLook path Read name log (Ok (file, stat)) → stat.kind ≡ kind.Folder
      → EndsInput path name log [] (Err (File name))
  NoRoom : (file : F) (stat : Stat) (log : List (Call F)) → EndsLook path Read name log (Ok (file, stat)) → EndsInput path name log [] (Err (Build fault.Memory))
  NoInput : (log : List (Call F)) (why : Refusal) → EndsLook path Read name log (Err why) → EndsInput path name log [] (Err why)

-- what has a name is none of these files: it is another one, or the name isn't there (ENOENT)
abbrev pub IsApart : List FileId → Result Stat Error → Type 0
IsApart places (Ok stat) = All (λ place. place ≡ stat.id → ⊥) places
IsApart places (Err error) = error_kind error ≡ NotFound

-- whether it is: one that can't be asked about may be one of them
pub data EndsApart (places : List FileId) (name : FileName) : Result Stat Error → Result Unit Refusal → Type 0 where
  IsOther : (found : Result Stat Error) → IsApart places found → EndsApart places name found (Ok tt)
  IsSame : (stat : Stat) → (IsApart places (Ok stat) → ⊥) → EndsApart places name (Ok stat) (Err (File name))
  Unasked : (error : Error) (why : Refusal) → Denies name why → EndsApart places name (Err error) (Err why)

-- a regular file of this number, where it is one
abbrev pub regular_id : Kind → FileId → List FileId
regular_id kind.Regular id = id ∷ []
regular_id _ id = []

-- the regular file that standard output goes to, where it goes to one
abbrev pub printed_to : Result Stat Error → List FileId
printed_to (Ok stat) = regular_id stat.kind stat.id
printed_to (Err error) = []

-- the name of the file of standard output
abbrev pub stdout : List ℕ
stdout = codes "/dev/stdout"

-- an output is made, or emptied, after it was asked what has its name: it is none of the files that were opened, nor that of standard output,
-- and nothing of another kind is lost there. Else none is emptied
pub data EndsOutput {F : Type 0} (remaining : F → Option (List ℕ)) (o : OutFile) (kind : OutKind) (opened : List FileId) : List (Call F) → Result F Refusal → Type 0
  where
    IsMade : (found printed : Result Stat Error) (looked log : List (Call F)) (result : Result F Refusal) → IsApart opened found
        → IsApart (printed_to printed) found → Spares remaining o kind found looked (Ok tt) → EndsOpen o.path.now Empty (name_of kind) log result
        → EndsOutput remaining o kind opened (Asks o.path.now found ∷ Asks stdout printed ∷ (looked ++ log)) result
    OverInput : (found printed : Result Stat Error) (why : Refusal) → EndsApart opened (name_of kind) found (Err why)
        → EndsOutput remaining o kind opened (Asks o.path.now found ∷ Asks stdout printed ∷ []) (Err why)
    OverPrinted : (found printed : Result Stat Error) (why : Refusal) → EndsApart (printed_to printed) (name_of kind) found (Err why)
        → EndsOutput remaining o kind opened (Asks o.path.now found ∷ Asks stdout printed ∷ []) (Err why)
    OverOther : (found printed : Result Stat Error) (looked : List (Call F)) (why : Refusal) → Spares remaining o kind found looked (Err why)
        → EndsOutput remaining o kind opened (Asks o.path.now found ∷ Asks stdout printed ∷ looked) (Err why)

-- all that a file took goes out of its buffer, and then, of a regular file, to its storage device
pub data GoesOut {F A : Type 0} (file : BufWriter F A) : List (Call F) → Result Unit Error → Type 0 where
  IsStored : (stat : Stat) (result : Result Unit Error) → stat.kind ≡ kind.Regular → writer_buffer file ≡ []
      → GoesOut file (Looks (writer_inner file) (Ok stat) ∷ Syncs (writer_inner file) result ∷ []) result
  IsHanded : (stat : Stat) → (stat.kind ≡ kind.Regular → ⊥) → writer_buffer file ≡ []
      → GoesOut file (Looks (writer_inner file) (Ok stat) ∷ []) (Ok tt)
  Unwritten : (error : Error) → GoesOut file [] (Err error)
  Untold : (error : Error) → GoesOut file (Looks (writer_inner file) (Err error) ∷ []) (Err error)

-- the file of a name is this one, when the name is asked about and then when it is opened so; else, as a device, it is denied
pub data OpensSame {F : Type 0} (path : List ℕ) (how : How) (place : FileId) : List (Call F) → Result F Refusal → Type 0 where
  StaysSame : (file : F) (asked seen : Stat) (log : List (Call F)) → asked.id ≡ place → EndsLook path how name.Device log (Ok (file, seen)) → seen.id ≡ place
      → OpensSame path how place (Asks path (Ok asked) ∷ log) (Ok file)
  IsAnother : (asked : Stat) → (asked.id ≡ place → ⊥) → OpensSame path how place (Asks path (Ok asked) ∷ []) (Err (File name.Device))
  IsUnasked : (error : Error) (why : Refusal) → Denies name.Device why → OpensSame path how place (Asks path (Err error) ∷ []) (Err why)
  BecomesAnother : (file : F) (asked seen : Stat) (log : List (Call F)) → asked.id ≡ place → EndsLook path how name.Device log (Ok (file, seen))
      → (seen.id ≡ place → ⊥) → OpensSame path how place (Asks path (Ok asked) ∷ log) (Err (File name.Device))
  Unseen_again : (asked : Stat) (log : List (Call F)) (why : Refusal) → asked.id ≡ place → EndsLook path how name.Device log (Err why)
      → OpensSame path how place (Asks path (Ok asked) ∷ log) (Err why)

-- the name of the list of the drivers of terminals (proc_tty(5))
abbrev pub tty_drivers : List ℕ
tty_drivers = codes "/proc/tty/drivers"

-- what has a name is a terminal: a character device that a driver of terminals has, as the list says, whose bytes are `remaining` where it
-- reports them
pub data FindsTerminal {F : Type 0} (remaining : F → Option (List ℕ)) (path : List ℕ) : List (Call F) → Result FileId Refusal → Type 0 where
  IsTerminal : (stat seen : Stat) (device : ℕ) (list : F) (drivers : List ℕ) (log : List (Call F)) → stat.kind ≡ kind.Characters device
      → EndsLook tty_drivers Read name.Device log (Ok (list, seen)) → IfSome (remaining list) (λ bytes. drivers ≡ bytes) → IsListed device drivers
      → FindsTerminal remaining path (Asks path (Ok stat) ∷ log) (Ok stat.id)
  NoDevice : (found : Result Stat Error) (why : Refusal) → Denies name.Device why → FindsTerminal remaining path (Asks path found ∷ []) (Err why)
  NoList : (stat : Stat) (log : List (Call F)) (why : Refusal) → EndsLook tty_drivers Read name.Device log (Err why)
      → FindsTerminal remaining path (Asks path (Ok stat) ∷ log) (Err why)
  NoTerminal : (stat seen : Stat) (list : F) (log : List (Call F)) (why : Refusal) → EndsLook tty_drivers Read name.Device log (Ok (list, seen))
      → Denies name.Device why → FindsTerminal remaining path (Asks path (Ok stat) ∷ log) (Err why)

-- a device is opened to be read, and then to be written, only where its name was found to be that of a terminal, and is that one at both
pub data EndsDevice {F A : Type 0} (remaining : F → Option (List ℕ)) (path : List ℕ) : List (Call F) → Result (BufReader F A × F) Refusal → Type 0 where
  IsWired : (place : FileId) (reader : BufReader F A) (to : F) (found reading writing : List (Call F)) → FindsTerminal remaining path found (Ok place)
      → OpensSame path Read place reading (Ok (reader_inner reader)) → OpensSame path Write place writing (Ok to)
      → EndsDevice remaining path (found ++ (reading ++ writing)) (Ok (reader, to))
  Unfound : (found : List (Call F)) (why : Refusal) → FindsTerminal remaining path found (Err why) → EndsDevice remaining path found (Err why)
  Unreadable : (place : FileId) (found reading : List (Call F)) (why : Refusal) → FindsTerminal remaining path found (Ok place)
      → OpensSame path Read place reading (Err why) → EndsDevice remaining path (found ++ reading) (Err why)
  Unbuffered : (place : FileId) (from : F) (found reading : List (Call F)) → FindsTerminal remaining path found (Ok place)
      → OpensSame path Read place reading (Ok from) → EndsDevice remaining path (found ++ reading) (Err (Build fault.Memory))
  Unwritable : (place : FileId) (from : F) (found reading writing : List (Call F)) (why : Refusal) → FindsTerminal remaining path found (Ok place)
      → OpensSame path Read place reading (Ok from) → OpensSame path Write place writing (Err why)
      → EndsDevice remaining path (found ++ (reading ++ writing)) (Err why)

-- a call by which nothing is made, emptied or written: a question, or an opening to read, or to write what is there
pub data IsQuestion {F : Type 0} : Call F → Type 0 where
  OfName : (path : List ℕ) (found : Result Stat Error) → IsQuestion (Asks path found)
  OfFile : (file : F) (found : Result Stat Error) → IsQuestion (Looks file found)
  ToRead : (path : List ℕ) (result : Result F Error) → IsQuestion (Opens path Read result)
  ToWrite : (path : List ℕ) (result : Result F Error) → IsQuestion (Opens path Write result)

pub data AreQuestions {F : Type 0} : List (Call F) → Type 0 where
  NoQuestion : AreQuestions []
  OneQuestion : (call : Call F) (log : List (Call F)) → IsQuestion call → AreQuestions log → AreQuestions (call ∷ log)
