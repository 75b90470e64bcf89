-- How `flash` ends (this project's).
use Rattle.std.specs.Prelude.{◌≡◌, ⊤, ℕ, Bool, ◌&&◌, not, is_some, List, [], ◌∷◌, ◌++◌, drop, if◌then◌else◌, Option, Some, None, option_map, Result, Ok, Err}
use Rattle.nor_serprog.specs.Greeting.{Greeted}
use Rattle.nor_serprog.specs.declared.fault.GreetFault.{GreetFault}
use Rattle.nor_serprog.specs.declared.limits.Limits.{Limits}
use Rattle.norprog_common.specs.Chip.{origin_of}
use Rattle.norprog_common.specs.Image.{Image, IsDataOf, RefusesData, hex_in, image_in, images_in, own_in, path_of}
use Rattle.norprog_common.specs.declared.faults.FileName.{FileName}
use Rattle.norprog_common.specs.declared.faults.FileName.TheVariants as file
use Rattle.norprog_common.specs.declared.faults.Refusal.{Refusal}
use Rattle.norprog_common.specs.declared.image.ImageData.{ImageData}
use Rattle.norprog_device.specs.Blame.{is_cut}
use Rattle.norprog_device.specs.Opened.{LetsGo}
use Rattle.norprog_device.specs.declared.fault.DeviceFault.TheVariants.{Greet}
use Rattle.nor_base.specs.Wire.{Wire}
use Rattle.norprog_files.specs.Files.{Event, Denied, Denies, Given, StopsOpening, Unwired, Wired}
use Rattle.norprog_flash.specs.Begun.{saved_of, session, Printed}
use Rattle.norprog_flash.specs.Blame.{fault_in}
use Rattle.norprog_flash.specs.Dump.{IsDumpOf, RefusesDump}
use Rattle.norprog_flash.specs.Early.{IsSoundEarly, RefusesEarly}
use Rattle.norprog_flash.specs.Opened.{EndsTested, HasHeld, StopsHolding}
use Rattle.norprog_flash.specs.Stops.{CantPlan}
use Rattle.norprog_flash.specs.Task.{dump_of, works}
use Rattle.norprog_flash.specs.declared.dump.Dump.{Dump}
use Rattle.norprog_flash.specs.declared.ending.Ending.{Ending}
use Rattle.norprog_flash.specs.declared.ending.Unflashed.{Unflashed}
use Rattle.norprog_flash.specs.declared.ending.Unflashed.TheVariants.{Device, Refused}
use Rattle.norprog_flash.specs.declared.job.Job.{Job}
use Rattle.norprog_flash.specs.declared.request.FlashRequest.{FlashRequest}
use Rattle.norprog_named.specs.Gathered.{Gathers}
use Rattle.norprog_named.specs.Job.{Reads, ReadsNamed, chip_files, image_file, named_by}
use Rattle.norprog_named.specs.Saved.{SavesIf}
use Rattle.norprog_named.specs.declared.flash_files.FlashFiles.{FlashFiles}
use Rattle.norprog_named.specs.declared.flash_files.FlashTexts.{FlashTexts}
use Rattle.norprog_read.specs.Request.{IsAskOf}
use Rattle.norprog_read.specs.declared.asked.Reading.{Reading}
use Rattle.norprog_read.specs.declared.request.ReadRequest.{ReadRequest}

-- the image of a request, where it has a file
abbrev pub asked_in : FlashRequest → Option Image
asked_in r = option_map image_in r.image

abbrev pub asked_files : Option Image → List (FileName × List ℕ)
asked_files None = []
asked_files (Some image) = image_file image ∷ []

-- that was read, and has these bytes; where there is no file they have no part in it
pub data ReadsAsked : Option Image → List ℕ → List Event → Type 0 where
  NoImage : (bytes : List ℕ) → ReadsAsked None bytes []
  OfImage : (image : Image) (bytes : List ℕ) → ReadsAsked (Some image) bytes (Given (path_of image) bytes ∷ [])

-- what its file gives that has these bytes
abbrev pub IsAskedData : ℕ → Option (List ℕ) → List ℕ → Option Image → ImageData → Type 0
IsAskedData base layout bytes None given = hex_in given ≡ bytes
IsAskedData base layout bytes (Some image) given = IsDataOf base layout bytes image given

-- why it gives nothing
abbrev pub RefusesAsked : ℕ → Option (List ℕ) → List ℕ → Option Image → Refusal → Type 0
RefusesAsked base layout bytes None why = ⊥
RefusesAsked base layout bytes (Some image) why = RefusesData base layout bytes image why

-- the files that are read, each with its option, in their order
abbrev pub flash_files : FlashRequest → List (FileName × List ℕ)
flash_files r =
    asked_files (asked_in r) ++ (named_by file.Layout (option_map (λ t. t.now) r.layout) ++ (chip_files (option_map origin_of r.read.chip)
    ++ named_by file.Resume (option_map (λ t. t.now) r.resume)))

-- the bytes of the layout's file, and of the older content's
abbrev pub layout_in : FlashFiles → Option (List ℕ)
layout_in read = option_map (λ bytes. bytes.items) read.layout

abbrev pub old_in : FlashFiles → Option (List ℕ)
old_in read = option_map (λ bytes. bytes.items) read.old

-- each was read whole, and has these bytes
pub data ReadsFlash (r : FlashRequest) (read : FlashFiles) : List Event → Type 0 where
  Reads_all : (image layout tables old : List Event) → ReadsAsked (asked_in r) read.hex.items image
      → Reads (option_map (λ t. t.now) r.layout) (layout_in read) layout
      → ReadsNamed (option_map origin_of r.read.chip) read.sfdp.items tables → Reads (option_map (λ t. t.now) r.resume) (old_in read) old
      → ReadsFlash r read (image ++ (layout ++ (tables ++ old)))

-- the dump that the older content's file has, where there is one
pub data HasDump (part : Bool) : Option (List ℕ) → Option Dump → Type 0 where
  NoDump : HasDump part None None
  OfFile : (file : List ℕ) (dump : Dump) → IsDumpOf file part dump → HasDump part (Some file) (Some dump)

-- why that file has none
abbrev pub RefusesOld : Bool → Option (List ℕ) → Refusal → Type 0
RefusesOld part None why = ⊥
RefusesOld part (Some file) why = RefusesDump file part why

-- what a job is made of: what the image's files give, and the others as they are, with the dump of the older content
pub record AreTexts (r : FlashRequest) (read : FlashFiles) (whole : ImageData) (texts : FlashTexts) : Type 0 where
  pub hex : texts.hex.items ≡ hex_in whole
  pub image : texts.image ≡ own_in whole
  pub layout : texts.layout ≡ read.layout
  pub sfdp : texts.sfdp ≡ read.sfdp
  pub old : HasDump r.near (old_in read) texts.old

-- they were, and then the image's further files, and the job is made of these texts; or one can't be read, the older content's has no dump, the
-- image's first gives nothing, or its files give no image
pub data EndsReading (r : FlashRequest) : Result FlashTexts Refusal → List Event → Type 0 where
  HasTexts : (read : FlashFiles) (texts : FlashTexts) (first whole : ImageData) (log more : List Event) → ReadsFlash r read log
      → IsAskedData r.base (layout_in read) read.hex.items (asked_in r) first
      → Gathers r.base (layout_in read) first (drop 1 (images_in r.images.now)) (Ok whole) more → AreTexts r read whole texts
      → EndsReading r (Ok texts) (log ++ more)
  NoFile : (log : List Event) (why : Refusal) → StopsOpening (flash_files r) log why → EndsReading r (Err why) log
  UnfitDump : (read : FlashFiles) (log : List Event) (why : Refusal) → ReadsFlash r read log → RefusesOld r.near (old_in read) why
      → EndsReading r (Err why) log
  NoData : (read : FlashFiles) (old : Option Dump) (log : List Event) (why : Refusal) → ReadsFlash r read log → HasDump r.near (old_in read) old
      → RefusesAsked r.base (layout_in read) read.hex.items (asked_in r) why → EndsReading r (Err why) log
  NoWhole : (read : FlashFiles) (old : Option Dump) (first : ImageData) (log more : List Event) (why : Refusal) → ReadsFlash r read log
      → HasDump r.near (old_in read) old → IsAskedData r.base (layout_in read) read.hex.items (asked_in r) first
      → Gathers r.base (layout_in read) first (drop 1 (images_in r.images.now)) (Err why) more → EndsReading r (Err why) (log ++ more)

-- standard output failed only where work was refused
abbrev pub StillWorks : Result Ending Unflashed → ℕ → ℕ → Type 0
StillWorks (Err (Refused why)) before after = ⊤
StillWorks answer before after = after ≡ before

-- how the chip is read: its content too, which is saved
abbrev pub reading_of : FlashRequest → ReadRequest
reading_of r = record {
  chip = r.read.chip;
  bits = r.read.bits;
  part = r.read.part;
  page = r.read.page;
  mode4 = r.read.mode4;
  device = r.read.device;
  limit = r.read.limit;
  tables = r.read.tables;
  out = Some r.before;
  raw = r.read.raw;
  fresh = r.read.fresh;
  any_size = r.read.any_size;
  repeats = r.read.repeats;
  expect_id = r.read.expect_id;
}

-- the job of a request, made of these texts
pub record IsJobOf (r : FlashRequest) (held : FlashTexts) (job : Job) : Type 0 where
  pub ask : IsAskOf (reading_of r) held.sfdp.items job.ask
  pub erased_only : job.ask.erased_only ≡ r.erased_only
  pub hex : job.hex.now ≡ held.hex.items
  pub image : option_map (λ image. image.now) job.image ≡ held.image
  pub blank : job.blank ≡ not (is_some r.image)
  pub layout : option_map (λ t. t.now) job.layout ≡ option_map (λ bytes. bytes.items) held.layout
  pub regions : job.regions.now ≡ r.regions.now
  pub base : job.base ≡ r.base
  pub old : dump_of job ≡ held.old
  pub near : job.near ≡ r.near
  pub rules : job.rules ≡ r.rules
  pub aim : job.aim ≡ r.aim
  pub texts : job.texts.now ≡ r.texts.now

-- where what the chip holds is saved: nowhere where the work isn't to be done
abbrev pub file_for : Job → List ℕ → Option (List ℕ)
file_for job name = if works job.aim then Some name else None

-- how a job ends on a device that reported these limits, while its line goes from this to that; what was read of the chip is saved in the
-- file of this name, unless the work isn't to be done
pub data EndsHeld (limits : Limits) (name : List ℕ) (job : Job) (begun done : Wire) (out : Printed) : List Event → Result Ending Unflashed → Type 0
  where
    -- what the chip held is saved, and then the work on it ended so
    Ended : (r : Reading) (saved : List Event) (ending : Ending) → SavesIf (file_for job name) file.Before (saved_of job r) saved (Ok tt)
        → EndsTested (session job limits r) begun done out ending → EndsHeld limits name job begun done out saved (Ok ending)
    -- the chip isn't read, or can't take the work
    NotHeld : (why : Unflashed) → StopsHolding limits job begun done why → out.after ≡ out.before
        → EndsHeld limits name job begun done out [] (Err why)
    -- it was read, and nothing else was sent; what it holds can't be saved
    NotSaved : (r : Reading) (saved : List Event) (why : Refusal) → HasHeld limits job begun done r
        → SavesIf (file_for job name) file.Before (saved_of job r) saved (Err why) → out.after ≡ out.before → EndsHeld limits name job begun done out saved (Err (Refused why))
    -- that is saved, and nothing else was sent; the work can't be planned or printed
    NotPlanned : (r : Reading) (saved : List Event) (why : Refusal) → HasHeld limits job begun done r
        → SavesIf (file_for job name) file.Before (saved_of job r) saved (Ok tt) → CantPlan job r out why
        → EndsHeld limits name job begun done out saved (Err (Refused why))

-- from the handshake on, while its line goes from this to that
pub data EndsGreeted (name : List ℕ) (job : Job) (first last : Wire) (out : Printed) : List Event → Result Ending Unflashed → Type 0 where
  -- the device reported these limits, and the job ended so; then the pins were let go, unless a request was cut
  Session : (limits : Limits) (begun done : Wire) (log : List Event) (answer : Result Ending Unflashed)
      → Greeted first begun (Ok limits) → EndsHeld limits name job begun done out log answer
      → LetsGo done last (limits.pins && not (is_cut (fault_in answer))) → EndsGreeted name job first last out log answer
  -- the handshake ended early
  NotGreeted : (why : GreetFault) → Greeted first last (Err why) → out.after ≡ out.before
      → EndsGreeted name job first last out [] (Err (Device (Greet why)))

-- of a job on the device of a name
pub data EndsJob (device name : List ℕ) (job : Job) (out : Printed) : List Event → Result Ending Unflashed → Type 0 where
  -- it has no fault that shows before its chip is read, and ended so on the device, which was closed
  OnDevice : (first last : Wire) (log : List Event) (answer : Result Ending Unflashed) → IsSoundEarly job → EndsGreeted name job first last out log answer
      → EndsJob device name job out (Wired device first ∷ (log ++ (Unwired device last ∷ []))) answer
  -- it has one: no device is opened
  Faulty : (why : Refusal) → RefusesEarly job why → out.after ≡ out.before → EndsJob device name job out [] (Err (Refused why))
  -- the device can't be opened
  NoDevice : (why : Refusal) → IsSoundEarly job → Denies file.Device why → out.after ≡ out.before
      → EndsJob device name job out (Denied device ∷ []) (Err (Refused why))

-- how `flash` ends, and what was done with files by then
pub data EndsFlash (r : FlashRequest) (out : Printed) : List Event → Result Ending Unflashed → Type 0 where
  -- the files were read, and the job of their texts ended so
  Worked : (held : FlashTexts) (job : Job) (read work : List Event) (answer : Result Ending Unflashed) → EndsReading r (Ok held) read → IsJobOf r held job
      → EndsJob r.read.device.now r.before.now job out work answer → EndsFlash r out (read ++ work) answer
  -- one can't be read, or they give no texts
  NoInput : (log : List Event) (why : Refusal) → EndsReading r (Err why) log → out.after ≡ out.before → EndsFlash r out log (Err (Refused why))
