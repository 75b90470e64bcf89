-- A content that shows which address mode the chip is in that it was read from, by two readings that are cut apart (this project's).
use Rattle.std.specs.Prelude.{◌≡◌, ◌≤◌, ◌<◌, ℕ, Bool, true, false, ◌==◌, if◌then◌else◌, nat_le, ◌||◌, ◌+◌, ◌-◌, ◌*◌, ◌^◌, min, List, ◌++◌, length, take, drop, slice_index, Option, [], ◌∷◌}
use Rattle.nor_base.specs.declared.meaning.Switch.{Switch}
use Rattle.nor_base.specs.Device.{Ahead}
use Rattle.nor_base.specs.Instructions.{is_there}
use Rattle.nor_base.specs.Wire.{Wire, wire}
use Rattle.nor_loop.specs.Log.{Operation, HasLogged}
use Rattle.nor_loop.specs.Reads.{chunk, switch_ops, Chunk}
use Rattle.nor_reader.specs.declared.by.ReadBy.{ReadBy}
use Rattle.nor_reader.specs.declared.by.ReadBy.TheVariants.{Content, Entered}
use Rattle.nor_reader.specs.Cut.{shift, ReadsCut, ReadApart}
use Rattle.nor_reader.specs.Modes.{MayGive}
use Rattle.nor_reader.specs.Reads.{reads}
use Rattle.nor_reader.specs.Twice.{twice, Twice}

-- each byte of these is the one that is so many further on
abbrev pub HasPeriod : ℕ → List ℕ → Type 0
HasPeriod period bytes = drop period bytes ≡ take (length bytes - period) bytes

-- a piece that no chip in the other mode gives, whatever it holds: after its first three bytes it has none of the periods from
-- 255 to 765
abbrev pub IsTelling : List ℕ → Type 0
IsTelling piece = (period : ℕ) → 255 ≤ period → period ≤ 765 → HasPeriod period (drop 3 piece) → ⊥

-- a piece from an address on is read by the address bytes of the mode that is said, and so is that of the second reading which begins
-- within it: three address bytes reach both
abbrev pub is_near : Bool → ℕ → ℕ → ℕ → Bool
is_near mode4 at most size = mode4 || nat_le (min (at + shift + most) size) (2 ^ 24)

-- some piece of a first reading is so
pub record ShowsMode (mode4 : Bool) (most : ℕ) (content : List ℕ) : Type 0 where
  pub number : ℕ
  pub near : is_near mode4 (number * most) most (length content) ≡ true
  pub telling : IsTelling (take most (drop (number * most) content))

-- the mode after an operation: B7h enters four-byte mode, and E9h leaves it
abbrev pub mode_after : Bool → Operation → Bool
mode_after mode4 o = if slice_index o.sent 0 == 0xB7 then true else if slice_index o.sent 0 == 0xE9 then false else mode4

-- a chip that begins in this mode gave these, one after the other
abbrev pub HasGiven : (ℕ → ℕ) → Bool → List Operation → Type 0
HasGiven holds mode4 [] = Unit {0}
HasGiven holds mode4 (o ∷ log) = MayGive holds mode4 o × HasGiven holds (mode_after mode4 o) log

-- it has the bytes of a chunk
abbrev pub Holds : (ℕ → ℕ) → Chunk → Type 0
Holds holds c = (x : ℕ) → x < length c.bytes → holds (c.at + x) ≡ slice_index c.bytes x

-- its addresses fit four bytes
abbrev pub FitsFour : Chunk → Type 0
FitsFour c = c.at + length c.bytes ≤ 2 ^ 32

-- one mode was said, and by its address bytes a content was read twice, the second time by pieces that begin two bytes further on. Every
-- chip that gave this, in whichever mode it was and whatever the programmer drove while it sampled, was in the mode that was said, and
-- has that content; unless the content doesn't show the mode
abbrev pub ModeIsShown : Type 0
ModeIsShown = (most : ℕ) (said mode4 : Bool) (holds : ℕ → ℕ) (content : List ℕ) (first again : List Operation) → length content ≤ 2 ^ 32
    → ShowsMode said most content → ReadsCut most (reads most (Content said)) (chunk 0 content) first
    → ReadsCut (min shift most) (reads most (Content said)) (chunk 0 content) again
    → HasGiven holds mode4 first → HasGiven holds mode4 again → (mode4 ≡ said) × Holds holds (chunk 0 content)

-- and each chip that has a chunk gives it to reads by the address bytes of its mode, however it is cut
abbrev pub SaidGives : Type 0
SaidGives = (first most : ℕ) (said : Bool) (holds : ℕ → ℕ) (c : Chunk) (log : List Operation) → FitsFour c
    → ReadsCut first (reads most (Content said)) c log → Holds holds c → HasGiven holds said log

-- and each chip in the mode that is said has what it gave to such reads
abbrev pub SaidHolds : Type 0
SaidHolds = (first most : ℕ) (said : Bool) (holds : ℕ → ℕ) (c : Chunk) (log : List Operation) → FitsFour c
    → ReadsCut first (reads most (Content said)) c log → HasGiven holds said log → Holds holds c

-- so has every chip for which four-byte mode is entered and left, whichever its mode was
abbrev pub EnteredHolds : Type 0
EnteredHolds = (first most : ℕ) (enter leave : Switch) (mode4 : Bool) (holds : ℕ → ℕ) (c : Chunk) (log : List Operation)
    → FitsFour c → is_there enter ≡ true → ReadsCut first (reads most (Entered enter leave)) c log
    → HasGiven holds mode4 log → Holds holds c

-- one of two ways to read a content gives it to a chip in the mode that is said: by the address bytes of that mode, or in four-byte mode, which
-- is entered
abbrev pub GivesSaid : ReadBy → Bool → Type 0
GivesSaid (Content mode4) said = mode4 ≡ said
GivesSaid (Entered enter leave) said = is_there enter ≡ true
GivesSaid other said = ⊥

-- what went over the wire is two logs. Every chip that gives all that came back has just this chunk, and it was in the mode that was said,
-- whichever its address mode was as they began; where the mode is sure it was that one
pub record KnowsMode (before after : Wire) (sure said : Bool) (c : Chunk) : Type 0 where
  pub first : List Operation
  pub again : List Operation
  pub wire : HasLogged before after (first ++ again)
  pub known : (mode4 : Bool) (holds : ℕ → ℕ) → (sure ≡ true → mode4 ≡ said) → HasGiven holds mode4 (first ++ again)
      → (mode4 ≡ said) × Holds holds c

-- so it is where a content came twice alike, in pieces that are cut apart, and shows the mode
abbrev pub ApartKnows : Type 0
ApartKnows = (most : ℕ) (held_before held_after : Option (List ℕ)) (ahead_before ahead_after : Ahead) (said : Bool) (content : List ℕ)
    → length content ≤ 2 ^ 32 → ShowsMode said most content
    → ReadApart (twice most (Content said) (Content said)) (wire held_before ahead_before) (wire held_after ahead_after) (chunk 0 content)
    → KnowsMode (wire held_before ahead_before) (wire held_after ahead_after) false said (chunk 0 content)

-- and where the mode is sure, and the first reading gives a chunk to a chip in it
abbrev pub SureKnows : Type 0
SureKnows = (t : Twice) (held_before held_after : Option (List ℕ)) (ahead_before ahead_after : Ahead) (said : Bool)
    (c : Chunk) → FitsFour c → GivesSaid t.first.by said
    → ReadApart t (wire held_before ahead_before) (wire held_after ahead_after) c
    → KnowsMode (wire held_before ahead_before) (wire held_after ahead_after) true said c

-- the mode after operations
abbrev pub modes_after : Bool → List Operation → Bool
modes_after mode4 [] = mode4
modes_after mode4 (o ∷ log) = modes_after (mode_after mode4 o) log

-- the opcode that makes a mode: B7h enters four-byte mode, E9h leaves it
abbrev pub opcode_to : Bool → ℕ
opcode_to mode4 = if mode4 then 0xB7 else 0xE9

-- where there is a way to switch so, a chip that takes it is in that mode then, whichever it was in
abbrev pub SwitchMakes : Type 0
SwitchMakes = (said mode4 : Bool) (switch : Switch) → is_there switch ≡ true → modes_after mode4 (switch_ops switch (opcode_to said)) ≡ said
