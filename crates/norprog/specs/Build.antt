-- What a build promises (this project's).
use Rattle.std.specs.Prelude.{◌≡◌, ◌≢◌, ℕ, true, false, ◌≤◌, ⊤, List, [], ◌++◌, Bool, length, take, count_by, sum_by, is_some, ◌⊎◌, Some, if◌then◌else◌}
use Rattle.std.specs.List.{list_any, AllByRecursion}
use Rattle.std.specs.Option.{option_map_or}
use Rattle.std.specs.Io.KnownBytes.{Appends}
use Rattle.nor_base.specs.declared.meaning.Strategy.{Strategy}
use Rattle.nor_base.specs.declared.step.Step.{Step}
use Rattle.nor_base.specs.Parameters.{Parameters}
use Rattle.nor_base.specs.Device.{Gives}
use Rattle.nor_base.specs.Array.{are_bytes}
use Rattle.nor_base.specs.Script.{IsScript}
use Rattle.nor_base.specs.Target.{is_ignored}
use Rattle.nor_base.specs.Chip.{Setting, IsChipOf, ready}
use Rattle.nor_base.specs.Run.{DoesTask, DoesTaskOnEvery}
use Rattle.nor_base.specs.Blocks.{Block, Holds, AreDisjoint, LiesIn, IsLegalBlock}
use Rattle.nor_base.specs.Strategies.{strategy, reaches}
use Rattle.nor_base.specs.Need.{is_due, is_needed, erased_at}
use Rattle.nor_base.specs.Events.{Event, events, is_erased_by, times_erased, erases_seen, programs_seen, AreVerified}
use Rattle.nor_base.specs.Planned.{planned_units, IsInTheMaking}
use Rattle.nor_base.specs.Step.{verifies}
use Rattle.nor_geometry.specs.Window.{IsWindowSize}
use Rattle.nor_hex.specs.Image.{Pairs}
use Rattle.nor_layout.specs.Region.{Region}
use Rattle.nor_layout.specs.Chosen.{is_chosen}
use Rattle.nor_job.specs.declared.fault.BuildFault.{BuildFault}
use Rattle.nor_job.specs.declared.fault.BuildFault.TheVariants as fault
use Rattle.nor_job.specs.Causes.{AreAccepted}
use Rattle.nor_job.specs.Status.{start_of}
use Rattle.nor_job.specs.Task.{Task}
use Rattle.nor_base.specs.Wire.{Wire}
use Rattle.norprog.specs.declared.report.Report.{Report}
use Rattle.norprog.specs.Update.{Update, asked, CanBeDone, IsDoneBy, WorkCause}
use Rattle.norprog.specs.Windows.{AreWindows}
use Rattle.nor_job.specs.Wanted.{wanted}

-- how many addresses of the image are ignored
abbrev pub ignored_of : Task → Pairs → List Region → Parameters → ℕ
ignored_of t image regions m = count_by (λ pair. is_ignored t.base (is_chosen regions t.regions) m.size pair.0) image

-- the report of the units of an update's planned work and of its steps; what of the image is ignored
abbrev pub report_of : Update → ℕ → List Step → Report
report_of u ignored steps =
    let units = planned_units u.m u.start u.have u.want in
    record {
      strategy = strategy u.m u.start;
      steps = length steps;
      erases = count_by (λ unit. is_some unit.erase) units;
      erased = sum_by (λ unit. option_map_or (λ block. block.size) unit.erase 0) units;
      programs = sum_by (λ unit. length unit.programs) units;
      ignored = ignored;
    }

-- the sentence: the inputs are accepted, the reader gave the whole content, what was appended is the text of steps, and on
-- every chip of the inputs with that content these do what is asked
pub record WroteScript (t : Task) (len : ℕ) (before after : Wire) : Type 0 where
  pub image : Pairs
  pub regions : List Region
  pub m : Parameters
  pub accepted : AreAccepted t len image regions m
  pub content : List ℕ
  pub whole : length content ≡ len
  pub given : Gives before.ahead content after.ahead
  pub text : List ℕ
  pub put : Appends before.held after.held text
  pub steps : List Step
  pub script : IsScript text steps
  pub task : DoesTaskOnEvery m (start_of t) content (wanted t image regions content) steps

-- the erased blocks: each is legal, the strategy reaches it, and it holds its address; two of them are apart, or one; and each
-- legal block that the strategy reaches inside the needed area lies in one of them
pub record AreLargest (m : Parameters) (by : Strategy) (due : ℕ → Bool) : Type 0 where
  pub legal : (a : ℕ) (b : Block) → erased_at m by due a ≡ Some b → IsLegalBlock m b × (reaches by m b.kind b.start ≡ true) × Holds b a
  pub apart : (a x : ℕ) (b c : Block) → erased_at m by due a ≡ Some b → erased_at m by due x ≡ Some c → AreDisjoint b c ⊎ (b ≡ c)
  pub largest : (c : Block) → IsLegalBlock m c → reaches by m c.kind c.start ≡ true → ((x : ℕ) → Holds c x → is_needed m due x ≡ true)
      → (b : Block) × (erased_at m by due c.start ≡ Some b) × LiesIn c b

-- what is seen of the steps on a chip: after each transaction at most one unit of the work is in the making; where it is asked
-- for, each address that they erase or program is read later; they erase just the needed area, each address of it once, and
-- whatever does the task, any steps on any such chip, erases it too; erases and programs are as many as the report says
pub record RunsAsPlanned (u : Update) (steps : List Step) (report : Report) (s : Setting) (seen : List Event) : Type 0 where
  pub rising : AllByRecursion (λ e. IsInTheMaking (planned_units u.m u.start u.have u.want) u.have u.want e.chip.array) seen
  pub verified : u.verify ≡ true → AreVerified s u.want steps seen
  pub erased : (a : ℕ) → is_erased_by s seen a ≡ is_needed u.m (is_due u.m u.have u.want) a
  pub once : (a : ℕ) → times_erased s seen a ≡ (if is_needed u.m (is_due u.m u.have u.want) a then 1 else 0)
  pub least : (other : Setting) (others : List Step) (a : ℕ) → IsChipOf u.m u.start other → DoesTask other u.have u.want others
      → is_erased_by s seen a ≡ true → is_erased_by other (events other (ready other u.have) others) a ≡ true
  -- where no profile asks for erased bytes, whatever does the task on a chip with the page that all have has at least as many programs
  pub fewest : u.m.erased_only ≡ false → are_bytes u.have ≡ true → (other : Setting) (others : List Step) → IsChipOf u.m u.start other
      → other.page ≡ u.m.page → DoesTask other u.have u.want others → report.programs ≤ programs_seen (events other (ready other u.have) others)
  pub erases : erases_seen seen ≡ report.erases
  pub programs : programs_seen seen ≡ report.programs

-- how it is done: no address is at fault; the steps are those of the planned work, show so on every chip of a task, and read
-- nothing where that isn't asked for; the erased blocks are the largest; the report is of that work
pub record IsAsPlanned (u : Update) (ignored : ℕ) (steps : List Step) (report : Report) : Type 0 where
  pub workable : CanBeDone u
  pub planned : IsDoneBy u steps
  pub runs : (s : Setting) → IsChipOf u.m u.start s → RunsAsPlanned u steps report s (events s (ready s u.have) steps)
  pub unverified : u.verify ≡ false → list_any verifies steps ≡ false
  pub largest : AreLargest u.m (strategy u.m u.start) (is_due u.m u.have u.want)
  pub told : report ≡ report_of u ignored steps

-- what a build promises: the sentence, which says what a user gets, and how it is done
pub record IsBuilt (t : Task) (len : ℕ) (before after : Wire) (report : Report) : Type 0 where
  pub wrote : WroteScript t len before after
  pub work : IsAsPlanned (asked t wrote.image wrote.regions wrote.m wrote.content) (ignored_of t wrote.image wrote.regions wrote.m)
      wrote.steps report

-- with some more bytes these are the script of the planned work of this update
pub record BeginsScript (u : Update) (bytes : List ℕ) : Type 0 where
  pub steps : List Step
  pub planned : IsDoneBy u steps
  pub rest : List ℕ
  pub script : IsScript (bytes ++ rest) steps
  pub more : rest ≢ []

-- bytes that a build wrote which then was refused, of a part of the content that it read, of which the first windows were planned:
-- some work can be done on a content that begins with these windows; and whatever else such a content has, the bytes begin its script
pub record IsFrontOf (m : Parameters) (update : List ℕ → Update) (part bytes : List ℕ) (why : BuildFault) : Type 0 where
  pub window : ℕ
  pub its_size : IsWindowSize m window
  pub known : ℕ
  pub windows : AreWindows m.size window known (length part) why
  pub workable : (content : List ℕ) × (take known content ≡ take known part) × CanBeDone (update content)
  pub begins : (content : List ℕ) → take known content ≡ take known part → CanBeDone (update content) → BeginsScript (update content) bytes

-- the inputs are accepted, some of the content was read, its cause, and what was written, which is no script
pub record StopsWork (t : Task) (len : ℕ) (before after : Wire) (why : BuildFault) : Type 0 where
  pub image : Pairs
  pub regions : List Region
  pub m : Parameters
  pub accepted : AreAccepted t len image regions m
  pub part : List ℕ
  pub within : length part ≤ len
  pub given : Gives before.ahead part after.ahead
  pub cause : WorkCause (asked t image regions m part) after.ahead why
  pub bytes : List ℕ
  pub front : IsFrontOf m (asked t image regions m) part bytes why
  pub put : Appends before.held after.held bytes

-- a fault that accepted inputs can meet
abbrev pub IsLate : BuildFault → Type 0
IsLate (fault.Plan why) = ⊤
IsLate fault.ContentShort = ⊤
IsLate fault.Read = ⊤
IsLate fault.Write = ⊤
IsLate fault.Memory = ⊤
IsLate other = ⊥
