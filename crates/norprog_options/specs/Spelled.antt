-- What the words of a command line say, and why they are refused (this project's).
use Rattle.std.specs.Prelude.{◌≡◌, ◌≢◌, ⊤, List, [], ◌∷◌, Some, map}
use Rattle.clap.specs.Words.{Text, fault_of, rows_of, subcommand_name_of, subcommand_of}
use Rattle.clap.specs.declared.error.kind.ErrorKind.{ErrorKind}
use Rattle.clap.specs.declared.error.kind.ErrorKind.TheVariants.{OutOfMemory}
use Rattle.clap.specs.declared.parser.matches.ArgMatches.{ArgMatches}
use Rattle.clap.specs.declared.parser.matches.Found.{Found}
use Rattle.nor_job.specs.declared.fault.BuildFault.TheVariants.{Memory}
use Rattle.norprog_common.specs.declared.faults.Refusal.{Refusal}
use Rattle.norprog_common.specs.declared.faults.Refusal.TheVariants as refusal
use Rattle.norprog_options.specs.declared.options.Line.{Line}
use Rattle.norprog_options.specs.Options.{IsAskedIn, name_of}
use Rattle.norprog_options.specs.Program.{commands, program}
use Rattle.norprog_options.specs.Typed.{IsDetailedBy}

-- the words, with no fault, name this command with these options, as the library reads words for the program's commands and options
pub record Spells (words : List Text) (line : Line) : Type 0 where
  pub fits : fault_of program words ≡ []
  pub found : Found
  pub used : subcommand_of program words ≡ Some (name_of line.asked, rows_of found)
  pub asked : IsAskedIn found line.asked
  pub details : IsDetailedBy (name_of line.asked) found line.details

-- memory ran out
abbrev pub memory : Refusal
memory = refusal.Build Memory

-- words with a fault, as a request for help, are refused by the library's text; else only memory ran out
abbrev pub Refuses : List Text → Refusal → Type 0
Refuses words (refusal.Text text) = fault_of program words ≢ []
Refuses words (refusal.Build why) = why ≡ Memory
Refuses words _ = ⊥

-- an error of the library that isn't its memory is refused by its text
abbrev pub IsRefusalOf : ErrorKind → Refusal → Type 0
IsRefusalOf kind (refusal.Text text) = kind ≢ OutOfMemory
IsRefusalOf kind (refusal.Build why) = why ≡ Memory
IsRefusalOf kind _ = ⊥

-- the names of the commands
abbrev pub command_names : List Text
command_names = map (λ c. c.0) commands

-- none of the commands of these names was used
abbrev pub IsNoneUsed : List Text → ArgMatches → Type 0
IsNoneUsed [] matches = ⊤
IsNoneUsed (name ∷ names) matches = (subcommand_name_of matches ≢ Some name) × IsNoneUsed names matches

-- why nothing is asked for: none of these commands was used, or memory ran out
abbrev pub IsUnasked : List Text → ArgMatches → Refusal → Type 0
IsUnasked names matches refusal.Usage = IsNoneUsed names matches
IsUnasked names matches (refusal.Build why) = why ≡ Memory
IsUnasked names matches _ = ⊥
