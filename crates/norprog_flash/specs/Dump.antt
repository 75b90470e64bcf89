-- What a chip held before work on it was begun, and how that is saved (this project's).
use Rattle.std.specs.Prelude.{◌≡◌, ◌+◌, ◌≤◌, ◌^◌, ◌==◌, ◌&&◌, nat_le, ⊤, ℕ, Bool, true, false, List, ◌++◌, length, take, drop, Option, None, Some}
use Rattle.nor_hex.specs.Image.{HasNoneFrom, IsRunFrom, Pairs}
use Rattle.nor_hex.specs.Faults.{IsFault, IsImage}
use Rattle.nor_hex.specs.declared.fault.HexFault.{HexFault}
use Rattle.nor_hex.specs.Laws.{GivesJust}
use Rattle.nor_job.specs.declared.fault.BuildFault.TheVariants.{Memory}
use Rattle.norprog_common.specs.declared.faults.FileName.TheVariants.{Resume}
use Rattle.norprog_common.specs.declared.faults.Refusal.{Refusal}
use Rattle.norprog_common.specs.declared.faults.Refusal.TheVariants.{Build, File}
use Rattle.norprog_flash.specs.declared.dump.Dump.{Dump}
use Rattle.norprog_read.specs.declared.asked.Span.{Span}

-- a file has this dump: all of a chip, as its bytes are; or a part, of which its Intel HEX gives just the bytes
pub data IsDumpOf (file : List ℕ) : Bool → Dump → Type 0 where
  AllOfIt : (dump : Dump) → dump.at ≡ 0 → dump.bytes.items ≡ file → IsDumpOf file false dump
  OfPart : (dump : Dump) (image : Pairs) → IsImage file image → GivesJust dump.at dump.bytes.items image → IsDumpOf file true dump

-- an image isn't taken: it gives no bytes, they go up to FFFFFFFFh, more come after a gap, or a growth was refused
pub data RefusesRun (image : Pairs) : Refusal → Type 0 where
  NoBytes : HasNoneFrom image 0 → RefusesRun image (File Resume)
  ToTheEnd : (at : ℕ) (run : List ℕ) → IsRunFrom image 0 at run → 2 ^ 32 ≤ at + length run → RefusesRun image (File Resume)
  Gapped : (at next : ℕ) (run more : List ℕ) → IsRunFrom image 0 at run → IsRunFrom image (at + length run) next more → RefusesRun image (File Resume)
  NoRoom : RefusesRun image (Build Memory)

-- a file isn't: of a part its text has a fault, its image isn't taken, or a growth was refused
pub data RefusesDump (file : List ℕ) : Bool → Refusal → Type 0 where
  NoHex : (fault : HexFault) → IsFault file fault → RefusesDump file true (File Resume)
  NoRun : (image : Pairs) (why : Refusal) → IsImage file image → RefusesRun image why → RefusesDump file true why
  NoMemory : RefusesDump file true (Build Memory)

-- a dump has just the part of a content that was read
abbrev pub is_of_part : Dump → Span → List ℕ → Bool
is_of_part dump part content = (dump.at == part.low) && ((dump.at + length dump.bytes.items == part.high) && nat_le part.high (length content))

abbrev pub AreOfPart : Option Dump → Span → List ℕ → Type 0
AreOfPart None part content = ⊤
AreOfPart (Some dump) part content = is_of_part dump part content ≡ true

-- a content with the bytes of a dump in their place
abbrev pub laid : Dump → List ℕ → List ℕ
laid dump content = take dump.at content ++ (dump.bytes.items ++ drop (dump.at + length dump.bytes.items) content)

-- what a chip held before work on it was begun, of what it holds: that, with the bytes of the dump in their place, where there is one
abbrev pub older : Option Dump → List ℕ → List ℕ
older None content = content
older (Some dump) content = laid dump content
