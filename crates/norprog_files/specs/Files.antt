-- What is done with files by their names, and what came of it (this project's).
use Rattle.std.specs.Prelude.{ℕ, List, [], ◌∷◌, ◌++◌, Option, Result, Ok, Err}
use Rattle.std.specs.Io.KnownBytes.{Appends}
use Rattle.nor_base.specs.Device.{Ahead, Gives, IsAtEnd}
use Rattle.nor_job.specs.declared.fault.BuildFault.TheVariants as fault
use Rattle.norprog_common.specs.declared.faults.FileName.{FileName}
use Rattle.norprog_common.specs.declared.faults.Refusal.{Refusal}
use Rattle.norprog_common.specs.declared.given.OutFile.{OutFile}
use Rattle.nor_base.specs.Wire.{Wire}
use Rattle.norprog_files.specs.declared.replaced.OutKind.{OutKind}
use Rattle.norprog_common.specs.declared.faults.Refusal.TheVariants.{File, Build}

-- one thing that is done with the file of a name. `Opened`: it was opened to be read, this is ahead of its reader, and it has so many bytes.
-- `Given`: it was read from its first byte to its last, and these are all. `Denied`: it couldn't be opened, read or made, or memory ran
-- out. `Asked`: the system was asked about it; it may have been opened meanwhile, but was neither made, emptied nor written to. `Made`: it was made, or emptied, for such a content; it is none of the files that were opened before, nor that of
-- standard output, and nothing of another kind was lost there, unless that was said to be right. `New`: it was made,
-- and none of its name was there. `Sent`: it was closed, and all that it took has gone out. `Lost`: it was closed, and some may not have.
-- `Wired`: a terminal was opened to be read and written. `Unwired`: it was closed. What a file or a line has then stands beside it
pub data Event : Type 0 where
  Opened : List ℕ → Ahead → ℕ → Event
  Given : List ℕ → List ℕ → Event
  Denied : List ℕ → Event
  Asked : List ℕ → Event
  Made : OutFile → OutKind → Option (List ℕ) → Event
  New : List ℕ → Option (List ℕ) → Event
  Sent : List ℕ → Option (List ℕ) → Event
  Lost : List ℕ → Option (List ℕ) → Event
  Wired : List ℕ → Wire → Event
  Unwired : List ℕ → Wire → Event

-- what is done by a call that has this result
abbrev pub came : {T E : Type 0} → Result T E → (T → Event) → Event → List Event
came (Ok x) done denied = done x ∷ []
came (Err why) done denied = denied ∷ []

-- how a file that held this is closed by a call that has this result
abbrev pub closing : {T E : Type 0} → Result T E → List ℕ → Option (List ℕ) → Event
closing (Ok x) name held = Sent name held
closing (Err why) name held = Lost name held

-- after what was done before, just this was
pub record Adds {A : Type 0} (before after : List A → Type 0) (log : List A) : Type 0 where
  pub then : (past : List A) → before past → after (past ++ log)

-- what was done after what was done before is so
abbrev pub Did : {A : Type 0} → (List A → Type 0) → (List A → Type 0) → (List A → Type 0) → Type 0
Did {A} before after Is = (log : List A) × Adds before after log × Is log

-- why a file isn't opened, read or made: it can't be, which is told by the name of its option; or memory ran out
pub data Denies (name : FileName) : Refusal → Type 0 where
  Unusable : Denies name (File name)
  Unallotted : Denies name (Build fault.Memory)

-- the reader has just these bytes ahead
abbrev pub IsWhole : Ahead → List ℕ → Type 0
IsWhole ahead bytes = (rest : Ahead) × Gives ahead bytes rest × IsAtEnd rest

-- a file was made and took just this text, all of which has gone out
pub data Sends (out : OutFile) (kind : OutKind) (text : List ℕ) : List Event → Type 0 where
  Sends_all : (begun ended : Option (List ℕ)) → Appends begun ended text → Sends out kind text (Made out kind begun ∷ Sent out.path.now ended ∷ [])

-- a file was made and took just this text; some of it may not have gone out
pub data Loses (out : OutFile) (kind : OutKind) (text : List ℕ) : List Event → Type 0 where
  Loses_some : (begun ended : Option (List ℕ)) → Appends begun ended text → Loses out kind text (Made out kind begun ∷ Lost out.path.now ended ∷ [])

-- a file was closed that held this, whatever came of that
pub data IsClosed (name : List ℕ) (held : Option (List ℕ)) : Event → Type 0 where
  ClosedSent : IsClosed name held (Sent name held)
  ClosedLost : IsClosed name held (Lost name held)

-- a file was made, took just this text, and was closed
pub data Leaves (out : OutFile) (kind : OutKind) (text : List ℕ) : List Event → Type 0 where
  Leaves_it : (begun ended : Option (List ℕ)) (last : Event) → Appends begun ended text → IsClosed out.path.now ended last
      → Leaves out kind text (Made out kind begun ∷ last ∷ [])

-- the file of this name was opened, or read whole
pub data IsUsed (path : List ℕ) : Event → Type 0 where
  IsOpened : (ahead : Ahead) (len : ℕ) → IsUsed path (Opened path ahead len)
  IsGiven : (bytes : List ℕ) → IsUsed path (Given path bytes)

-- each of these files was, one after another
pub data AreUsed : List (FileName × List ℕ) → List Event → Type 0 where
  NoneUsed : AreUsed [] []
  OneUsed : (name : FileName) (path : List ℕ) (rest : List (FileName × List ℕ)) (event : Event) (log : List Event)
      → IsUsed path event → AreUsed rest log → AreUsed ((name, path) ∷ rest) (event ∷ log)

-- files that are opened one after another, each for its option: the first that is denied is told by it, and none after it is opened
pub data StopsOpening : List (FileName × List ℕ) → List Event → Refusal → Type 0 where
  Here : (name : FileName) (path : List ℕ) (rest : List (FileName × List ℕ)) (why : Refusal) → Denies name why
      → StopsOpening ((name, path) ∷ rest) (Denied path ∷ []) why
  Later : (name : FileName) (path : List ℕ) (rest : List (FileName × List ℕ)) (event : Event) (log : List Event) (why : Refusal)
      → IsUsed path event → StopsOpening rest log why → StopsOpening ((name, path) ∷ rest) (event ∷ log) why
