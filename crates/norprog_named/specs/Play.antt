-- How `play` ends (this project's).
use Rattle.std.specs.Prelude.{◌≡◌, ℕ, List, [], ◌∷◌, ◌++◌, Result, Ok, Err}
use Rattle.nor_base.specs.Port.{Shown}
use Rattle.nor_job.specs.Status.{start_of}
use Rattle.nor_job.specs.Task.{Task}
use Rattle.nor_job.specs.declared.fault.BuildFault.TheVariants.{Memory, Read}
use Rattle.norprog_common.specs.Chip.{origin_of}
use Rattle.norprog_common.specs.Setup.{setup_task}
use Rattle.norprog_common.specs.declared.faults.FileName.{FileName}
use Rattle.norprog_common.specs.declared.faults.FileName.TheVariants as file
use Rattle.norprog_common.specs.declared.faults.Refusal.{Refusal}
use Rattle.norprog_common.specs.declared.faults.Refusal.TheVariants.{Build, File}
use Rattle.nor_base.specs.Wire.{Wire}
use Rattle.norprog_files.specs.Files.{Event, Denied, Denies, Opened, StopsOpening, Unwired, Wired}
use Rattle.norprog_named.specs.Job.{ReadsTables, origin_files}
use Rattle.norprog_player.specs.declared.course.Course.{Course}
use Rattle.norprog_player.specs.declared.early.Rehearsed.{Rehearsed}
use Rattle.norprog_player.specs.Early.{EndsInMemory, MayPlay, chip_with}
use Rattle.norprog_player.specs.Expected.{Expectation, Play, expectation_of}
use Rattle.norprog_player.specs.Job.{IsReady, RefusesJob, Sources}
use Rattle.norprog_player.specs.Played.{EndsGreeted}
use Rattle.norprog_player.specs.Tables as chip
use Rattle.norprog_player.specs.declared.ending.Ending.{Ending}
use Rattle.norprog_player.specs.declared.request.PlayRequest.{PlayRequest}
use Rattle.norprog_player.specs.declared.unplayed.Unplayed.{Unplayed}
use Rattle.norprog_player.specs.declared.unplayed.Unplayed.TheVariants.{Refused}

-- the files that are opened, in their order
abbrev pub play_files : PlayRequest → List (FileName × List ℕ)
play_files r = origin_files (origin_of r.setup.chip) ++ ((file.Content, r.content.now) ∷ (file.Script, r.script.now) ∷ [])

-- those files were opened, and have this
pub data Opens (r : PlayRequest) (s : Sources) : List Event → Type 0 where
  Opens_all : (tables : List ℕ) (len : ℕ) (log : List Event) → ReadsTables (origin_of r.setup.chip) tables log → s.task ≡ setup_task r.setup tables
      → Opens r s (log ++ (Opened r.content.now s.content.ahead s.len ∷ Opened r.script.now s.script.ahead len ∷ []))

-- the chip that is expected of a request
abbrev pub expects : PlayRequest → Task → Expectation
expects r t = record { part = t.part; start = start_of t; tables = chip.tables_of t.chip; trusted = r.trust }

-- the play is that of a request: the steps of the script, on the chip of the tables with the content, as the files have them
pub record IsPlayOf (r : PlayRequest) (p : Play) (log : List Event) : Type 0 where
  pub sources : Sources
  pub opens : Opens r sources log
  pub ready : IsReady sources p.meaning p.steps p.content
  pub expected : p.expected ≡ expects r sources.task
  pub limit : p.limit ≡ r.limit

-- the chip in memory before the first step
abbrev pub shown_in : Play → Shown
shown_in p = chip_with p.meaning p.expected.start p.content

-- what a device is to do for a play that went so in memory
pub record IsCourseOf (p : Play) (r : Rehearsed) (c : Course) : Type 0 where
  pub meaning : c.meaning.now ≡ p.meaning
  pub expected : expectation_of c.expected ≡ p.expected
  pub content : c.content.now ≡ p.content
  pub steps : c.steps.now ≡ r.steps
  pub left : c.left.now ≡ r.left.items
  pub turns : c.turns ≡ p.limit

-- how a play ends, by the device of this name
pub data EndsPlaying (device : List ℕ) (p : Play) : List Event → Result Ending Unplayed → Type 0 where
  -- it ends so on any device: none is opened
  InMemory : (ending : Ending) → EndsInMemory (shown_in p) p.steps ending → EndsPlaying device p [] (Ok ending)
  NoMemory : EndsPlaying device p [] (Err (Refused (Build Memory)))
  -- the device can't be opened
  NoDevice : (r : Rehearsed) (why : Refusal) → MayPlay (shown_in p) p.steps r → Denies file.Device why
      → EndsPlaying device p (Denied device ∷ []) (Err (Refused why))
  -- it ended so on the device, which was closed
  OnDevice : (r : Rehearsed) (c : Course) (first last : Wire) (answer : Result Ending Unplayed) → MayPlay (shown_in p) p.steps r → IsCourseOf p r c
      → EndsGreeted c first last answer → EndsPlaying device p (Wired device first ∷ Unwired device last ∷ []) answer

-- how `play` ends, and what was done with files by then
pub data EndsPlay (Unread : Type 0) (r : PlayRequest) : List Event → Result Ending Unplayed → Type 0 where
  -- the play of the files ended so
  Played : (p : Play) (opened played : List Event) (answer : Result Ending Unplayed) → IsPlayOf r p opened → EndsPlaying r.device.now p played answer
      → EndsPlay Unread r (opened ++ played) answer
  -- a file can't be opened
  NoInput : (log : List Event) (why : Refusal) → StopsOpening (play_files r) log why → EndsPlay Unread r log (Err (Refused why))
  -- the chip, the script or the content is refused: no device is opened
  NoPlay : (s : Sources) (log : List Event) (why : Refusal) → Opens r s log
      → RefusesJob s why → (why ≡ File file.Script → Unread) → (why ≡ Build Read → Unread)
      → EndsPlay Unread r log (Err (Refused why))
