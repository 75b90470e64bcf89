-- How the program ends (this project's).
use Rattle.std.specs.Prelude.{◌≡◌, ◌≢◌, ◌⊎◌, ℕ, List, [], All, codes, Option, Result, Ok, Err}
use Rattle.std.specs.Io.KnownBytes.{Keeps, append_known}
use Rattle.nor_base.specs.Device.{one_more}
use Rattle.nor_job.specs.declared.fault.BuildFault.TheVariants.{Memory, Write}
use Rattle.norprog_cli.specs.Answers.{AnswersWords, Screen, screen}
use Rattle.norprog_common.specs.Told.{Ends, Output, between}
use Rattle.norprog_common.specs.declared.faults.Refusal.{Refusal}
use Rattle.norprog_common.specs.declared.faults.Refusal.TheVariants.{Build, Usage}
use Rattle.norprog_files.specs.Files.{Did, Event}
use Rattle.norprog_files.specs.Trace.{Reports, Told}
use Rattle.norprog_files.specs.declared.disk.FileId.{FileId}

-- of what a command printed, these last bytes haven't gone out
pub record IsLeft (printed out : Output) (left : List ℕ) : Type 0 where
  pub before : printed.before ≡ out.before
  pub after : Keeps printed.after (append_known out.after left)
  pub failures : printed.failures ≡ out.failures

-- a word is no name of a command that changes a chip, whose plan goes out before its first step
abbrev pub changes_none : List ℕ → Type 0
changes_none word = (word ≢ codes "flash") × (word ≢ codes "erase")

-- so is each
abbrev pub AreGathered : List (List ℕ) → Type 0
AreGathered words = All changes_none words

-- nothing was written to it
abbrev pub untouched : Output → Output
untouched err = between err.before err.before err.failures err.failures

-- how the program ends that was given words
pub data EndsWords (Unread : Type 0) (words : List (List ℕ)) (s : Screen) : ℕ → List Event → Type 0 where
  -- all that the command printed has gone out
  AllOut : (printed : Output) (status : ℕ) (log : List Event) → IsLeft printed s.out [] → s.out.failed ≡ printed.failed → AnswersWords Unread words (screen printed s.err) status log
      → EndsWords Unread words s status log
  -- standard output failed after a command that isn't done; its status is the program's
  Lost : (printed : Output) (left : List ℕ) (status : ℕ) (log : List Event) → AreGathered words → IsLeft printed s.out left → s.out.failed ≡ one_more printed.failed → status ≢ 0
      → AnswersWords Unread words (screen printed s.err) status log → EndsWords Unread words s status log
  -- it failed after one that is done: that is told
  Unprinted : (printed : Output) (left : List ℕ) (status : ℕ) (log : List Event) → AreGathered words → IsLeft printed s.out left → s.out.failed ≡ one_more printed.failed
      → AnswersWords Unread words (screen printed (untouched s.err)) 0 log → Ends s.err status (Err (Build Write)) → EndsWords Unread words s status log

-- why the program has no words: one is no text, or memory ran out
abbrev pub IsWordless : Refusal → Type 0
IsWordless why = (why ≡ Usage) ⊎ (why ≡ Build Memory)

-- how it ends with words, or without, which is told
abbrev pub EndsGiven : Type 0 → Result (List (List ℕ)) Refusal → Screen → ℕ → List Event → Type 0
EndsGiven Unread (Ok words) s status log = EndsWords Unread words s status log
EndsGiven Unread (Err why) s status log = (log ≡ []) × (s.out.after ≡ s.out.before) × Ends s.err status (Err why)

-- so it ends whatever the system's files give and take: what was done with files is what some calls of the system come to
pub record EndsOnSystem {F : Type 0} (files : Reports F) (words : Result (List (List ℕ)) Refusal) (s : Screen) (status : ℕ) : Type 0 where
  pub begun : List FileId
  pub opened : List FileId
  pub ends : Did (Told files (λ calls. Unit {0}) begun) (Told files (λ calls. Unit {0}) opened) (EndsGiven (Unit {0}) words s status)

-- behind what a command printed an object was to be written: nothing more was told, or, where the command was done, that this failed
pub data IsAdded (status : ℕ) (err : Output) (Quiet : Type 0) : ℕ → Type 0 where
  AsBefore : Quiet → IsAdded status err Quiet status
  NotAdded : (last : ℕ) → status ≡ 0 → Ends err last (Err (Build Write)) → IsAdded status err Quiet last

-- the program ended so, whatever standard output takes; or, where its command was done, an account of that couldn't be written, which is told
pub data EndsProgram {F : Type 0} (files : Reports F) (words : Result (List (List ℕ)) Refusal) (err : Output) (status : ℕ) : Type 0 where
  AsAnswered : (out : Output) → EndsOnSystem files words (screen out err) status → EndsProgram files words err status
  Unaccounted : (out : Output) → EndsOnSystem files words (screen out (untouched err)) 0 → Ends err status (Err (Build Write))
      → EndsProgram files words err status

-- the texts of words that may not be there
abbrev pub texts_in : {S : Type 0} → (S → List (List ℕ)) → Result S Refusal → Result (List (List ℕ)) Refusal
texts_in texts (Ok words) = Ok (texts words)
texts_in texts (Err why) = Err why
