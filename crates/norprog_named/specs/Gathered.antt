-- The image that several files give together (this project's).
use Rattle.std.specs.Prelude.{ℕ, List, [], ◌∷◌, ◌++◌, Option, Result, Ok, Err}
use Rattle.nor_hex.specs.Image.{Pairs}
use Rattle.nor_job.specs.declared.fault.BuildFault.TheVariants as fault
use Rattle.norprog_common.specs.Image.{Image, IsDataOf, IsImageIn, IsJoined, RefusesData, RefusesImage, RefusesJoin, path_of}
use Rattle.norprog_common.specs.declared.faults.Refusal.{Refusal}
use Rattle.norprog_common.specs.declared.faults.Refusal.TheVariants.{Build}
use Rattle.norprog_common.specs.declared.image.ImageData.{ImageData}
use Rattle.norprog_common.specs.declared.image.ImageData.TheVariants as whole
use Rattle.norprog_files.specs.Files.{Event, Given, StopsOpening}
use Rattle.norprog_named.specs.Job.{image_file}

-- the image that this one and a file give together: the file was read, and gives this
pub data Joins (base : ℕ) (layout : Option (List ℕ)) (file : Image) (image : Pairs) : Result Pairs Refusal → List Event → Type 0 where
  With_file : (bytes : List ℕ) (beside : ImageData) (both : Pairs) → IsDataOf base layout bytes file beside → IsJoined image beside both
      → Joins base layout file image (Ok both) (Given (path_of file) bytes ∷ [])
  -- it can't be read
  NoFile : (log : List Event) (why : Refusal) → StopsOpening (image_file file ∷ []) log why → Joins base layout file image (Err why) log
  -- it gives nothing
  NoData : (bytes : List ℕ) (why : Refusal) → RefusesData base layout bytes file why → Joins base layout file image (Err why) (Given (path_of file) bytes ∷ [])
  -- that is no image, or gives an address another byte
  NotBoth : (bytes : List ℕ) (beside : ImageData) (why : Refusal) → IsDataOf base layout bytes file beside → RefusesJoin image beside why
      → Joins base layout file image (Err why) (Given (path_of file) bytes ∷ [])

-- and each of these files, one after another, to the first that stops it
pub data JoinsAll (base : ℕ) (layout : Option (List ℕ)) : List Image → Pairs → Result Pairs Refusal → List Event → Type 0 where
  NoMore : (image : Pairs) → JoinsAll base layout [] image (Ok image) []
  Next : (file : Image) (rest : List Image) (image both : Pairs) (log more : List Event) (answer : Result Pairs Refusal)
      → Joins base layout file image (Ok both) log → JoinsAll base layout rest both answer more → JoinsAll base layout (file ∷ rest) image answer (log ++ more)
  StopsAt : (file : Image) (rest : List Image) (image : Pairs) (log : List Event) (why : Refusal) → Joins base layout file image (Err why) log
      → JoinsAll base layout (file ∷ rest) image (Err why) log

-- what the first file gives and further files give together; what the first gives where there is no further file
pub data Gathers (base : ℕ) (layout : Option (List ℕ)) (given : ImageData) : List Image → Result ImageData Refusal → List Event → Type 0 where
  Alone : Gathers base layout given [] (Ok given) []
  Together : (file : Image) (rest : List Image) (first all : Pairs) (log : List Event) → IsImageIn given first
      → JoinsAll base layout (file ∷ rest) first (Ok all) log → Gathers base layout given (file ∷ rest) (Ok (whole.Image all)) log
  NoFirst : (file : Image) (rest : List Image) (why : Refusal) → RefusesImage given why → Gathers base layout given (file ∷ rest) (Err why) []
  NoOther : (file : Image) (rest : List Image) (first : Pairs) (log : List Event) (why : Refusal) → IsImageIn given first
      → JoinsAll base layout (file ∷ rest) first (Err why) log → Gathers base layout given (file ∷ rest) (Err why) log
  NoRoom : (more : List Image) → Gathers base layout given more (Err (Build fault.Memory)) []
