-- The options with values as they stand on a command line (this project's).
use Rattle.std.specs.Prelude.{◌≡◌, ℕ, List, flat_map, map, codes, Option, Some, IfSome}
use Rattle.clap.specs.Words.{rows_of, subcommand_rows_of}
use Rattle.clap.specs.declared.parser.matches.ArgMatches.{ArgMatches}
use Rattle.clap.specs.declared.parser.matches.Found.{Found}
use Rattle.norprog_details.specs.declared.typed.CommandLine.{CommandLine}
use Rattle.norprog_details.specs.declared.typed.Typed.{Typed}
use Rattle.norprog_options.specs.declared.typed.TypedLine.{TypedLine}
use Rattle.norprog_options.specs.declared.typed.TheConstants.{NAMES}
use Rattle.norprog_options.specs.Options.{texts_of}

-- an option with its value
abbrev pub pair_of : Typed → List ℕ × List ℕ
pair_of option = (option.name.now, option.value.now)

-- the option of this name with each of its values, of all its uses
abbrev pub valued_by : Found → List ℕ → List (List ℕ × List ℕ)
valued_by found name = map (λ value. (name, value)) (texts_of found name)

-- each option of these names
abbrev pub typed_in : List (List ℕ) → Found → List (List ℕ × List ℕ)
typed_in names found = flat_map (valued_by found) names

-- the options that have values
abbrev pub option_names : List (List ℕ)
option_names = map {B = List ℕ} (λ name. name.now) NAMES.now

-- what stands behind the name of a command, except flags
pub record IsLineIn (command : List ℕ) (found : Found) (line : TypedLine) : Type 0 where
  pub named : line.command.now ≡ command
  pub typed : map pair_of line.typed.items ≡ typed_in option_names found
  pub regions : map (λ name. name.now) line.regions.items ≡ texts_of found (codes "names")

-- the same as slices
pub record IsLineOf (line : TypedLine) (handed : CommandLine) : Type 0 where
  pub command : handed.command.now ≡ line.command.now
  pub typed : handed.typed.now ≡ line.typed.items
  pub regions : handed.regions.now ≡ line.regions.items

-- where more is to be said, this is what stands on the command line
abbrev pub IsDetailedBy : List ℕ → Found → Option TypedLine → Type 0
IsDetailedBy command found details = IfSome details (IsLineIn command found)

-- of the command that was used
abbrev pub IsDetailed : ArgMatches → Option TypedLine → Type 0
IsDetailed matches details =
    (command : List ℕ) (found : Found) → subcommand_rows_of matches ≡ Some (command, rows_of found) → IsDetailedBy command found details
