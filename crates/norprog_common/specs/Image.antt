-- The image of a job, by the file that a command line names (this project's).
use Rattle.std.specs.Prelude.{◌≡◌, ◌≢◌, ◌⊎◌, ◌++◌, map, ℕ, ◌+◌, ◌-◌, ◌<◌, ◌≤◌, ◌^◌, ◌==◌, Bool, true, false, nat_lt, if◌then◌else◌, List, [], length, Option, Some, None}
use Rattle.std.specs.List.{after_first, before_first, list_any, position_or_len}
use Rattle.nor_hex.specs.Faults.{IsFault, IsImage}
use Rattle.nor_hex.specs.Image.{Pairs}
use Rattle.nor_hex.specs.Union.{HasJust, IsFirstClash, IsUnion}
use Rattle.nor_hex.specs.declared.fault.HexFault.{HexFault}
use Rattle.nor_hex.specs.declared.fault.HexFault.TheVariants as hex
use Rattle.nor_job.specs.Causes.{LayoutSays}
use Rattle.nor_job.specs.Lifted.{lifted_hex, lifted_layout}
use Rattle.nor_job.specs.declared.fault.BuildFault.TheVariants as fault
use Rattle.nor_layout.specs.Region.{Region}
use Rattle.nor_layout.specs.Text.{Refuses}
use Rattle.nor_layout.specs.declared.fault.LayoutFault.{LayoutFault}
use Rattle.nor_target.specs.Shares.{region_named}
use Rattle.norprog_common.specs.Values.{base_of}
use Rattle.norprog_common.specs.declared.faults.Refusal.{Refusal}
use Rattle.norprog_common.specs.declared.given.ImageArgs.{ImageArgs}
use Rattle.norprog_common.specs.declared.faults.Refusal.TheVariants.{BinLength, BinRegion, BinSize, Build, Conflict}
use Rattle.norprog_common.specs.declared.image.ImageData.{ImageData}
use Rattle.norprog_common.specs.declared.image.ImageData.TheVariants as given
use Rattle.norprog_common.specs.declared.image.ImageFile.{ImageFile}
use Rattle.norprog_common.specs.declared.image.ImageFile.TheVariants as file
use Rattle.norprog_common.specs.declared.image.Place as declared
use Rattle.norprog_common.specs.declared.image.Place.TheVariants as place

-- where raw bytes lie: all over the chip, in the region of a name, or from a chip address on
pub data Where : Type 0 where
  Chip : Where
  Named : List ℕ → Where
  At : ℕ → Where

abbrev pub place_in : declared.Place → Where
place_in place.Chip = Chip
place_in (place.Region name) = Named name.now
place_in (place.At at) = At at

-- the file of an image, by its path: of Intel HEX, or of raw bytes
pub data Image : Type 0 where
  Hex : List ℕ → Image
  Bin : Where → List ℕ → Image

abbrev pub image_in : ImageFile → Image
image_in (file.Hex path) = Hex path.now
image_in (file.Bin place path) = Bin (place_in place) path.now

-- its path
abbrev pub path_of : Image → List ℕ
path_of (Hex path) = path
path_of (Bin place path) = path

-- it lies all over the chip
abbrev pub is_placeless : Image → Bool
is_placeless (Bin Chip path) = true
is_placeless (Bin (Named name) path) = false
is_placeless (Bin (At at) path) = false
is_placeless (Hex path) = false

-- the place that a text names: five to eight hexadecimal digits are an address, else it is a region's name
abbrev pub address_or_name : Option ℕ → List ℕ → Where
address_or_name (Some at) text = At at
address_or_name None text = Named text

unfoldable pub place_by : List ℕ → Where
place_by text = if nat_lt (length text) 5 then Named text else address_or_name (base_of text) text

-- `PLACE=FILE` or `FILE`; `=` is 3Dh
abbrev pub is_sign : ℕ → Bool
is_sign b = b == 0x3D

unfoldable pub bin_in : List ℕ → Image
bin_in text =
    if nat_lt (position_or_len is_sign text) (length text) then Bin (place_by (before_first is_sign text)) (after_first is_sign text)
    else Bin Chip text

-- the files that are named, in the order in which they are laid together
abbrev pub images_in : ImageArgs → List Image
images_in given = map (λ path. Hex path.now) given.hex.items ++ map (λ text. bin_in text.now) given.bin.items

-- a raw one has no place, so that the image has to have as many bytes as the chip
abbrev pub fills_chip : ImageArgs → Bool
fills_chip given = list_any (λ text. is_placeless (bin_in text.now)) given.bin.items

-- the region of this name, among these, has so many bytes, and this is its first address
pub data StartsIn (regions : List Region) (name : List ℕ) (len : ℕ) : ℕ → Type 0 where
  Starts : (region : Region) → region_named regions name ≡ Some region → len ≡ region.end + 1 - region.start → StartsIn regions name len region.start

-- raw bytes, of which there are so many, begin at this chip address
pub data IsStart (layout : Option (List ℕ)) (len : ℕ) : Where → ℕ → Type 0 where
  All : IsStart layout len Chip 0
  From : (at : ℕ) → IsStart layout len (At at) at
  Within : (name : List ℕ) (regions : List Region) (at : ℕ) → LayoutSays layout regions → StartsIn regions name len at → IsStart layout len (Named name) at

-- why not in the region of this name, among these
pub data MissesIn (regions : List Region) (name : List ℕ) (len : ℕ) : Refusal → Type 0 where
  NoRegion : region_named regions name ≡ None → MissesIn regions name len BinRegion
  OtherSize : (region : Region) → region_named regions name ≡ Some region → len ≢ region.end + 1 - region.start
      → MissesIn regions name len (BinLength (record { given = len; wanted = region.end + 1 - region.start }))

-- why they begin at none
pub data Misses (layout : Option (List ℕ)) (len : ℕ) : Where → Refusal → Type 0 where
  NoLayout : (name text : List ℕ) (why : LayoutFault) → layout ≡ Some text → Refuses text why → Misses layout len (Named name) (Build (lifted_layout why))
  InLayout : (name : List ℕ) (regions : List Region) (why : Refusal) → LayoutSays layout regions → MissesIn regions name len why
      → Misses layout len (Named name) why

-- the text, and the image in its place
abbrev pub hex_in : ImageData → List ℕ
hex_in (given.Text text) = text.items
hex_in (given.Image image) = []

abbrev pub own_in : ImageData → Option Pairs
own_in (given.Text text) = None
own_in (given.Image image) = Some image

-- what the file of an image gives that has these bytes: the text of Intel HEX as it is; raw bytes from the base and their place on
pub data IsDataOf (base : ℕ) (layout : Option (List ℕ)) (bytes : List ℕ) : Image → ImageData → Type 0 where
  As_is : (path : List ℕ) (its : ImageData) → hex_in its ≡ bytes → own_in its ≡ None → IsDataOf base layout bytes (Hex path) its
  Laid : (place : Where) (path : List ℕ) (start : ℕ) (image : Pairs) → IsStart layout (length bytes) place start
      → base + start + length bytes ≤ 2 ^ 32 → HasJust (base + start) bytes image → IsDataOf base layout bytes (Bin place path) (given.Image image)

-- why it gives nothing
pub data RefusesData (base : ℕ) (layout : Option (List ℕ)) (bytes : List ℕ) : Image → Refusal → Type 0 where
  Nowhere : (place : Where) (path : List ℕ) (why : Refusal) → Misses layout (length bytes) place why → RefusesData base layout bytes (Bin place path) why
  TooFar : (place : Where) (path : List ℕ) (start : ℕ) → IsStart layout (length bytes) place start
      → (2 ^ 32 ≤ base + start) ⊎ (2 ^ 32 < base + start + length bytes) → RefusesData base layout bytes (Bin place path) BinSize
  OutOfMemory : (place : Where) (path : List ℕ) → RefusesData base layout bytes (Bin place path) (Build fault.Memory)

-- the text has a fault
pub data RefusesHex (text : List ℕ) : Refusal → Type 0 where
  NoHex : (why : HexFault) → (why ≢ hex.Memory → IsFault text why) → RefusesHex text (Build (lifted_hex why))

-- the image that is given; why there is none
abbrev pub IsImageIn : ImageData → Pairs → Type 0
IsImageIn (given.Text text) image = IsImage text.items image
IsImageIn (given.Image own) image = image ≡ own

abbrev pub RefusesImage : ImageData → Refusal → Type 0
RefusesImage (given.Text text) why = RefusesHex text.items why
RefusesImage (given.Image own) why = ⊥

-- ---- several files
-- this gives what an image gives, and what is given beside it
pub data IsJoined (image : Pairs) (beside : ImageData) (both : Pairs) : Type 0 where
  Joined : (other : Pairs) → IsImageIn beside other → IsUnion image other both → IsJoined image beside both

-- why there is none: a text has a fault; or both give this address, and no lower one, differently
pub data RefusesJoin (image : Pairs) (beside : ImageData) : Refusal → Type 0 where
  NoOther : (why : Refusal) → RefusesImage beside why → RefusesJoin image beside why
  Clashes : (other : Pairs) (at : ℕ) → IsImageIn beside other → IsFirstClash image other at → RefusesJoin image beside (Conflict at)
  NoRoom : RefusesJoin image beside (Build fault.Memory)
