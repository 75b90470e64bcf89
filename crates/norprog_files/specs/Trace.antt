-- What is done with files, as the calls of the system that do it (this project's).
use Rattle.std.specs.Prelude.{◌≡◌, ℕ, List, [], ◌∷◌, ◌++◌, IfSome, Option, Result, Ok, Err}
use Rattle.std.specs.Io.Buffered.{reader_remaining, writer_buffer, writer_contents, writer_inner}
use Rattle.std.specs.Io.KnownBytes.{Keeps}
use Rattle.std.specs.declared.alloc.Global.{Global}
use Rattle.std.specs.declared.io.BufReader.{BufReader}
use Rattle.std.specs.declared.io.BufWriter.{BufWriter}
use Rattle.std.specs.declared.io.Error.{Error}
use Rattle.nor_base.specs.Device.{ahead_of}
use Rattle.norprog_common.specs.declared.faults.FileName.{FileName}
use Rattle.norprog_common.specs.declared.faults.Refusal.{Refusal}
use Rattle.norprog_common.specs.declared.given.OutFile.{OutFile}
use Rattle.norprog_files.specs.declared.disk.FileId.{FileId}
use Rattle.norprog_files.specs.declared.disk.How.TheVariants.{Anew}
use Rattle.norprog_files.specs.Disk.{Call}
use Rattle.norprog_files.specs.declared.replaced.OutKind.{OutKind}
use Rattle.nor_base.specs.Wire.{Wire, wire}
use Rattle.norprog_files.specs.Files.{Asked, Denied, Event, Given, Lost, Made, New, Opened, Sent, Unwired, Wired}
use Rattle.norprog_files.specs.Guards.{AreQuestions, EndsDevice, EndsInput, EndsOpen, EndsOutput, GoesOut}

-- what an open file reports: the bytes that it will give, and those that it holds
pub record Reports (F : Type 0) : Type 0 where
  pub remaining : F → Option (List ℕ)
  pub contents : F → Option (List ℕ)

abbrev pub reports : {F : Type 0} → (F → Option (List ℕ)) → (F → Option (List ℕ)) → Reports F
reports remaining contents = record { remaining = remaining; contents = contents }

-- where these files were opened before, such calls come to one thing that is done with the file of a name; then those files were opened
pub data ComesTo {F : Type 0} (files : Reports F) (opened : List FileId) : List (Call F) → Event → List FileId → Type 0 where
  ToOpened : (path : List ℕ) (name : FileName) (file : F) (len : ℕ) (ids : List FileId) (calls : List (Call F)) → EndsInput path name calls ids (Ok (file, len))
      → ComesTo files opened calls (Opened path (ahead_of (files.remaining file)) len) (opened ++ ids)
  ToGiven : (path bytes : List ℕ) (name : FileName) (file : F) (len : ℕ) (ids : List FileId) (calls : List (Call F)) → EndsInput path name calls ids (Ok (file, len))
      → IfSome (files.remaining file) (λ given. bytes ≡ given) → ComesTo files opened calls (Given path bytes) (opened ++ ids)
  ToNoInput : (path : List ℕ) (name : FileName) (result : Result (F × ℕ) Refusal) (ids : List FileId) (calls : List (Call F)) → EndsInput path name calls ids result
      → ComesTo files opened calls (Denied path) (opened ++ ids)
  ToAsked : (path : List ℕ) (calls : List (Call F)) → AreQuestions calls → ComesTo files opened calls (Asked path) opened
  ToMade : (o : OutFile) (kind : OutKind) (file : BufWriter F Global) (calls : List (Call F))
      → EndsOutput files.remaining o kind opened calls (Ok (writer_inner file)) → writer_buffer file ≡ []
      → ComesTo files opened calls (Made o kind (writer_contents files.contents file)) opened
  ToNoOutput : (o : OutFile) (kind : OutKind) (result : Result F Refusal) (calls : List (Call F)) → EndsOutput files.remaining o kind opened calls result
      → ComesTo files opened calls (Denied o.path.now) opened
  ToNew : (path : List ℕ) (name : FileName) (file : BufWriter F Global) (calls : List (Call F)) → EndsOpen path Anew name calls (Ok (writer_inner file))
      → writer_buffer file ≡ [] → ComesTo files opened calls (New path (writer_contents files.contents file)) opened
  ToNoNew : (path : List ℕ) (name : FileName) (result : Result F Refusal) (calls : List (Call F)) → EndsOpen path Anew name calls result
      → ComesTo files opened calls (Denied path) opened
  ToSent : (path : List ℕ) (held : Option (List ℕ)) (file : BufWriter F Global) (calls : List (Call F)) → Keeps held (writer_contents files.contents file)
      → GoesOut file calls (Ok tt) → ComesTo files opened calls (Sent path held) opened
  ToLost : (path : List ℕ) (held : Option (List ℕ)) (file : BufWriter F Global) (result : Result Unit Error) (calls : List (Call F))
      → Keeps held (writer_contents files.contents file) → GoesOut file calls result → ComesTo files opened calls (Lost path held) opened
  ToWired : (path : List ℕ) (from : BufReader F Global) (to : F) (calls : List (Call F)) → EndsDevice files.remaining path calls (Ok (from, to))
      → ComesTo files opened calls (Wired path (wire (files.contents to) (ahead_of (reader_remaining files.remaining from)))) opened
  ToNoDevice : (path : List ℕ) (why : Refusal) (calls : List (Call F)) → EndsDevice {A = Global} files.remaining path calls (Err why)
      → ComesTo files opened calls (Denied path) opened
  ToUnwired : (path : List ℕ) (line : Wire) → ComesTo files opened [] (Unwired path line) opened

-- one after another
pub data Traces {F : Type 0} (files : Reports F) : List (Call F) → List Event → List FileId → Type 0 where
  IsBegun : Traces files [] [] []
  GoesOn : (calls more : List (Call F)) (log : List Event) (event : Event) (before after : List FileId) → Traces files calls log before
      → ComesTo files before more event after → Traces files (calls ++ more) (log ++ (event ∷ [])) after

-- the calls that may have been made come to this, and these files were opened
abbrev pub Told : {F : Type 0} → Reports F → (List (Call F) → Type 0) → List FileId → List Event → Type 0
Told {F} files did opened log = (calls : List (Call F)) × did calls × Traces files calls log opened
