-- What the call that lists a script's steps as they come does (this project's).
use Rattle.std.specs.Prelude.{◌≡◌, ◌⊎◌, ℕ, ◌+◌, Bool, List, [], Option, Result, Ok, Err}
use Rattle.std.specs.Io.KnownBytes.{Appends}
use Rattle.nor_base.specs.Device.{Ahead, Cuts, one_more}
use Rattle.nor_base.specs.Parameters.{Parameters}
use Rattle.nor_base.specs.Script.{IsScript}
use Rattle.nor_base.specs.declared.step.Step.{Step}
use Rattle.nor_listing.specs.Listing.{unended_listing, listing}
use Rattle.nor_script.specs.Faults.{IsFault, AreAbove, BeginsRight}
use Rattle.nor_script.specs.Stream.{HadText}
use Rattle.nor_script.specs.declared.fault.ReadFault.TheVariants as read
use Rattle.nor_script.specs.declared.fault.ScriptFault.{ScriptFault}
use Rattle.nor_script.specs.declared.fault.ScriptFault.TheVariants as script
use Rattle.nor_listing.specs.declared.stream.Stop.{Stop}
use Rattle.nor_listing.specs.declared.stream.Stop.TheVariants as stop
use Rattle.nor_base.specs.Wire.{Wire}

-- the first steps of a text: none, or those whose lines stand behind its header, from the first on
abbrev pub AreFirst : List ℕ → List Step → Type 0
AreFirst text steps = (steps ≡ []) ⊎ BeginsRight text steps

-- the listing of a text's first steps, without an end line
pub record AreFirstLines (m : Parameters) (first : Bool) (text bytes : List ℕ) : Type 0 where
  pub steps : List Step
  pub are : AreFirst text steps
  pub lines : bytes ≡ unended_listing m first steps

-- the listing of the steps that a text spells
pub record IsWhole (m : Parameters) (first : Bool) (text bytes : List ℕ) : Type 0 where
  pub steps : List Step
  pub script : IsScript text steps
  pub lines : bytes ≡ listing m first steps

-- the listing, without an end line, of the steps above a text's first fault
pub record AreAboveFault (m : Parameters) (first : Bool) (text : List ℕ) (why : ScriptFault) (bytes : List ℕ) : Type 0 where
  pub fault : IsFault text why
  pub steps : List Step
  pub above : AreAbove text steps why
  pub lines : bytes ≡ unended_listing m first steps

-- bytes of which this is so were appended; or a proper prefix of such
pub record PutsSome (Are : List ℕ → Type 0) (before after : Option (List ℕ)) : Type 0 where
  pub bytes : List ℕ
  pub are : Are bytes
  pub put : Appends before after bytes

pub record CutsSome (Are : List ℕ → Type 0) (before after : Option (List ℕ)) : Type 0 where
  pub bytes : List ℕ
  pub are : Are bytes
  pub put : Cuts before after bytes

-- what a proper prefix is of, where the output failed
abbrev pub IsListed : Parameters → Bool → List ℕ → List ℕ → Type 0
IsListed m first text bytes = IsWhole m first text bytes ⊎ AreFirstLines m first text bytes

-- of a text: its listing was appended; or the lines above its fault; or a part of the listing, or of the lines of its first steps; or
-- these lines, where its device failed or memory was refused
abbrev pub ListsOf : Parameters → Bool → List ℕ → Option (List ℕ) → Option (List ℕ) → Result (Unit {0}) Stop → Type 0
ListsOf m first text before after (Ok done) = PutsSome (IsWhole m first text) before after
ListsOf m first text before after (Err (stop.Out failed)) = CutsSome (IsListed m first text) before after
ListsOf m first text before after (Err (stop.Script (read.Device failed))) = PutsSome (AreFirstLines m first text) before after
ListsOf m first text before after (Err (stop.Script (read.Script script.Memory))) = PutsSome (AreFirstLines m first text) before after
ListsOf m first text before after (Err (stop.Script (read.Script why))) = PutsSome (AreAboveFault m first text why) before after

abbrev pub Lists : Parameters → Bool → Wire → Wire → Result (Unit {0}) Stop → Type 0
Lists m first ahead rest result = HadText ahead.ahead rest.ahead (λ text. ListsOf m first text ahead.held rest.held result)

-- a line was appended; or a proper prefix of it, or nothing where memory was refused
abbrev pub PutsLine : {T : Type 0} → Option (List ℕ) → Option (List ℕ) → Result T Stop → List ℕ → Type 0
PutsLine before after (Ok x) line = Appends before after line
PutsLine before after (Err (stop.Out failed)) line = Cuts before after line
PutsLine before after (Err (stop.Script why)) line = (why ≡ read.Script script.Memory) × (after ≡ before)

-- each device's count of failures rises by one exactly where its own failure stopped the listing
abbrev pub CountsStop : ℕ → ℕ → Result (Unit {0}) Stop → Type 0
CountsStop before after (Ok done) = after ≡ before
CountsStop before after (Err (stop.Out failed)) = after ≡ before
CountsStop before after (Err (stop.Script (read.Script why))) = after ≡ before
CountsStop before after (Err (stop.Script (read.Device failed))) = after ≡ one_more before

abbrev pub CountsOut : {T : Type 0} → ℕ → ℕ → Result T Stop → Type 0
CountsOut before after (Ok done) = after ≡ before
CountsOut before after (Err (stop.Out failed)) = after ≡ one_more before
CountsOut before after (Err (stop.Script why)) = after ≡ before
