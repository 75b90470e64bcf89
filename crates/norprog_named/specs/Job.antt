-- The files of a job, opened one after another (this project's).
use Rattle.std.specs.Prelude.{ℕ, List, [], ◌∷◌, ◌++◌, Option, Some, None, Result, Ok, Err, option_map}
use Rattle.nor_base.specs.Device.{Ahead}
use Rattle.norprog_common.specs.Chip.{Origin, Sfdp, Uniform, Sheet, origin_of}
use Rattle.norprog_common.specs.Held.{Held}
use Rattle.norprog_common.specs.Image.{Bin, Hex, Image, image_in, path_of}
use Rattle.norprog_common.specs.declared.faults.FileName.{FileName}
use Rattle.norprog_common.specs.declared.faults.FileName.TheVariants as file
use Rattle.norprog_common.specs.declared.faults.Refusal.{Refusal}
use Rattle.norprog_common.specs.declared.request.Request.{Request}
use Rattle.norprog_files.specs.Files.{Event, Given, Opened, StopsOpening}

-- a file that an option names, where it does
abbrev pub named_by : FileName → Option (List ℕ) → List (FileName × List ℕ)
named_by name None = []
named_by name (Some path) = (name, path) ∷ []

-- that of the tables of a chip, or of its sheet; one of a size has none
abbrev pub origin_files : Origin → List (FileName × List ℕ)
origin_files (Sfdp path bits) = (file.Sfdp, path) ∷ []
origin_files (Uniform size) = []
origin_files (Sheet path) = (file.Sheet, path) ∷ []

-- the file of an image
abbrev pub image_file : Image → FileName × List ℕ
image_file (Hex path) = (file.Hex, path)
image_file (Bin place path) = (file.Bin, path)

-- it was read, and has these bytes
pub data ReadsImage (image : Image) (bytes : List ℕ) : List Event → Type 0 where
  Read_image : ReadsImage image bytes (Given (path_of image) bytes ∷ [])

-- the files that a job reads, each with its option, in the order in which they are opened
abbrev pub job_files : Request → List (FileName × List ℕ)
job_files r =
    image_file (image_in r.image) ∷ (named_by file.Layout (option_map (λ t. t.now) r.layout) ++ (origin_files (origin_of r.chip)
    ++ ((file.Content, r.content.now) ∷ [])))

-- the file of this name was read, where there is a name; it has these bytes
pub data Reads : Option (List ℕ) → Option (List ℕ) → List Event → Type 0 where
  Unnamed : Reads None None []
  Named : (path bytes : List ℕ) → Reads (Some path) (Some bytes) (Given path bytes ∷ [])

-- that of the tables of a chip, or of its sheet, was; of a chip of a size there is none, and its bytes have no part in it
pub data ReadsTables : Origin → List ℕ → List Event → Type 0 where
  Tables : (path bits bytes : List ℕ) → ReadsTables (Sfdp path bits) bytes (Given path bytes ∷ [])
  NoTables : (size : ℕ) (bytes : List ℕ) → ReadsTables (Uniform size) bytes []
  Text : (path text : List ℕ) → ReadsTables (Sheet path) text (Given path text ∷ [])

-- the file of a chip that is named, where it has one
abbrev pub chip_files : Option Origin → List (FileName × List ℕ)
chip_files None = []
chip_files (Some origin) = origin_files origin

-- they were read; where no chip is named there are none, and the bytes have no part in it
pub data ReadsNamed : Option Origin → List ℕ → List Event → Type 0 where
  NoChip : (tables : List ℕ) → ReadsNamed None tables []
  OfChip : (origin : Origin) (tables : List ℕ) (log : List Event) → ReadsTables origin tables log → ReadsNamed (Some origin) tables log

-- a reading of such a file: it was read, or it can't be
abbrev pub Reading : {A : Type 0} → List (FileName × List ℕ) → (A → List Event → Type 0) → Result A Refusal → List Event → Type 0
Reading files Was (Ok x) log = Was x log
Reading files Was (Err why) log = StopsOpening files log why

-- the files of a request were opened in their order, and hold this; this is ahead of the content's reader, which has so many bytes
pub data OpensJob (r : Request) (read : Held) (content : Ahead) (len : ℕ) : List Event → Type 0 where
  Opens_files : (layout tables : List Event) → Reads (option_map (λ t. t.now) r.layout) read.layout layout → ReadsTables (origin_of r.chip) read.sfdp tables
      → OpensJob r read content len (Given (path_of (image_in r.image)) read.hex ∷ (layout ++ (tables ++ (Opened r.content.now content len ∷ []))))
