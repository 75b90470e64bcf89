-- A job whose files were opened (this project's).
use Rattle.std.specs.Prelude.{◌≡◌, ℕ, List, ◌++◌, drop, Result, Ok, Err}
use Rattle.nor_base.specs.Device.{Ahead}
use Rattle.nor_job.specs.Task.{Task}
use Rattle.norprog_common.specs.Held.{Held, task_by}
use Rattle.norprog_common.specs.Image.{IsDataOf, RefusesData, hex_in, image_in, images_in, own_in}
use Rattle.norprog_common.specs.declared.faults.Refusal.{Refusal}
use Rattle.norprog_common.specs.declared.image.ImageData.{ImageData}
use Rattle.norprog_common.specs.declared.request.Request.{Request}
use Rattle.norprog_files.specs.Files.{Event, StopsOpening}
use Rattle.norprog_named.specs.Gathered.{Gathers}
use Rattle.norprog_named.specs.Job.{OpensJob, job_files}

-- the files of a request were opened, and then the image's further files; this is its task: its image is what they give together
pub data IsJobOf (r : Request) (t : Task) (content : Ahead) (len : ℕ) : List Event → Type 0 where
  Opens_job : (read : Held) (first whole : ImageData) (log more : List Event) → OpensJob r read content len log
      → IsDataOf r.base read.layout read.hex (image_in r.image) first
      → Gathers r.base read.layout first (drop 1 (images_in r.images)) (Ok whole) more
      → t ≡ task_by r (record read { hex = hex_in whole; image = own_in whole }) → IsJobOf r t content len (log ++ more)

-- why they give no job: one can't be opened; the first file of the image gives nothing; or its files give no image
pub data StopsJob (r : Request) : List Event → Refusal → Type 0 where
  NoFile : (log : List Event) (why : Refusal) → StopsOpening (job_files r) log why → StopsJob r log why
  NoData : (read : Held) (content : Ahead) (len : ℕ) (log : List Event) (why : Refusal) → OpensJob r read content len log
      → RefusesData r.base read.layout read.hex (image_in r.image) why → StopsJob r log why
  NoImage : (read : Held) (content : Ahead) (len : ℕ) (first : ImageData) (log more : List Event) (why : Refusal) → OpensJob r read content len log
      → IsDataOf r.base read.layout read.hex (image_in r.image) first
      → Gathers r.base read.layout first (drop 1 (images_in r.images)) (Err why) more → StopsJob r (log ++ more) why

-- the job was opened, or it wasn't
abbrev pub Opening : {A : Type 0} → Request → (A → List Event → Type 0) → Result A Refusal → List Event → Type 0
Opening r Was (Ok x) log = Was x log
Opening r Was (Err why) log = StopsJob r log why
