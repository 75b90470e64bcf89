-- Which files are looked at again after a refusal (this project's; docs/FORMATS.md, section 9).
use Rattle.std.specs.Prelude.{ℕ, Bool, not, ◌==◌, ◌&&◌, if◌then◌else◌, List, [], ◌∷◌, codes}
use Rattle.std.specs.List.{Contains, after_first, list_any}
use Rattle.std.specs.Str.{bytes_eq}
use Rattle.norprog_details.specs.declared.typed.Typed.{Typed}
use Rattle.norprog_files.specs.Files.{Asked, Denied, Event, Given}
use Rattle.norprog_files.specs.Terminal.{has_byte}

-- an option of this name is given
abbrev pub is_typed : List Typed → List ℕ → Bool
is_typed typed name = list_any (λ option. bytes_eq option.name.now name) typed

-- what comes after the first `=`; without one all of it
abbrev pub after_place : List ℕ → List ℕ
after_place value = if has_byte 61 value then after_first (λ b. b == 61) value else value

-- the path of an option's file: its value, or of `--bin`, where no `--at` is given, what comes after PLACE=
abbrev pub path_of : List Typed → Typed → List ℕ
path_of typed option =
    if bytes_eq option.name.now (codes "bin") && not (is_typed typed (codes "at")) then after_place option.value.now else option.value.now

-- the system was asked about the file of this name, or it was read, or couldn't be
pub data IsLook (path : List ℕ) : Event → Type 0 where
  IsAsked : IsLook path (Asked path)
  IsRead : (bytes : List ℕ) → IsLook path (Given path bytes)
  IsDenied : IsLook path (Denied path)

-- each of these is such
pub data AreLooks (path : List ℕ) : List Event → Type 0 where
  NoLook : AreLooks path []
  OneLook : (event : Event) (log : List Event) → IsLook path event → AreLooks path log → AreLooks path (event ∷ log)

-- only files of these options were looked at
pub data LooksAgain (typed : List Typed) : List Event → Type 0 where
  NoneAgain : LooksAgain typed []
  OneAgain : (option : Typed) (event : Event) (log : List Event) → Contains typed option → IsLook (path_of typed option) event
      → LooksAgain typed log → LooksAgain typed (event ∷ log)
