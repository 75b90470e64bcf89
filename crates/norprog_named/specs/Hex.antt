-- How `hex` ends (this project's).
use Rattle.std.specs.Prelude.{◌⊎◌, ℕ, ◌+◌, ◌<◌, ◌≤◌, ◌^◌, List, [], ◌∷◌, length, take, Result, Ok, Err}
use Rattle.nor_base.specs.Device.{Ahead}
use Rattle.nor_hex.specs.Converted.{HasOtherLength, IsWhole}
use Rattle.nor_hex.specs.WrittenSegments.{hex_text}
use Rattle.nor_hex.specs.declared.converted.Unconverted.{Unconverted}
use Rattle.nor_hex.specs.declared.converted.Unconverted.TheVariants.{Image, Output, Memory}
use Rattle.nor_job.specs.declared.fault.BuildFault.TheVariants as fault
use Rattle.norprog_common.specs.declared.faults.FileName.TheVariants as file
use Rattle.norprog_common.specs.declared.faults.Refusal.{Refusal}
use Rattle.norprog_common.specs.declared.faults.Refusal.TheVariants.{File, Build, BinSize}
use Rattle.norprog_files.specs.Files.{Event, Opened, Denied, Denies, Leaves, Loses, Sends}
use Rattle.norprog_files.specs.declared.replaced.OutKind.TheVariants as kind
use Rattle.norprog_named.specs.declared.hex_request.HexRequest.{HexRequest}

-- a fault of the conversion as a refusal
abbrev pub refusal_of : Unconverted → Refusal
refusal_of Image = File file.Bin
refusal_of Output = Build fault.Write
refusal_of Memory = Build fault.Memory

-- the output was made, and took a proper prefix of the HEX text of some bytes: its end record isn't whole
pub data IsUnended (r : HexRequest) : List Event → Type 0 where
  Cut : (bytes : List ℕ) (n : ℕ) (log : List Event) → n < length (hex_text r.at bytes) → Leaves r.out kind.Hex (take n (hex_text r.at bytes)) log → IsUnended r log

-- how `hex` ends, and what was done with files by then
pub data EndsHex (Unread : Type 0) (r : HexRequest) : List Event → Result ℕ Refusal → Type 0 where
  -- the output was sent the HEX text of just the bytes that the image has
  Converted : (image : Ahead) (bytes : List ℕ) (log : List Event) → IsWhole image bytes → Sends r.out kind.Hex (hex_text r.at bytes) log
      → EndsHex Unread r (Opened r.bin.now image (length bytes) ∷ log) (Ok 0)
  -- the image can't be opened
  NoImage : (why : Refusal) → Denies file.Bin why → EndsHex Unread r (Denied r.bin.now ∷ []) (Err why)
  -- its last byte is past FFFFFFFFh: no output is made
  TooLong : (image : Ahead) (len : ℕ) → 2 ^ 32 < r.at + len → EndsHex Unread r (Opened r.bin.now image len ∷ []) (Err BinSize)
  -- the output can't be made
  NoOutput : (image : Ahead) (len : ℕ) (why : Refusal) → r.at + len ≤ 2 ^ 32 → Denies file.Out why
      → EndsHex Unread r (Opened r.bin.now image len ∷ Denied r.out.path.now ∷ []) (Err why)
  -- a read failed, or the image hasn't its length
  BadImage : (image : Ahead) (len : ℕ) (log : List Event) → Unread ⊎ HasOtherLength len image → IsUnended r log
      → EndsHex Unread r (Opened r.bin.now image len ∷ log) (Err (File file.Bin))
  -- some of the text hasn't gone out
  BadOutput : (image : Ahead) (len : ℕ) (text : List ℕ) (log : List Event) → Loses r.out kind.Hex text log
      → EndsHex Unread r (Opened r.bin.now image len ∷ log) (Err (Build fault.Write))
  -- memory ran out as the image was to be read
  NoMemory : (image : Ahead) (len : ℕ) (log : List Event) → IsUnended r log → EndsHex Unread r (Opened r.bin.now image len ∷ log) (Err (Build fault.Memory))
