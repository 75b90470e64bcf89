-- The commands of norprog and their options, as the command line library has them (this project's).
use Rattle.std.specs.Prelude.{Bool, true, false, List, [], ◌∷◌, ◌++◌, Some, map, codes}
use Rattle.clap.specs.Lexer.{usize_max}
use Rattle.clap.specs.Simple.{new_shape}
use Rattle.clap.specs.Words.{App, Rule, Shape, Text, new_rule}
use Rattle.clap.specs.declared.builder.action.ArgAction.TheVariants.{Set, Append, SetTrue}

-- the option of this name, without a value
abbrev pub flag : Text → Rule
flag name = record (new_rule name) { long = Some name; action = Some SetTrue }

-- the option of this name, with one value; it may have to be there
abbrev pub valued : Bool → Text → Rule
valued required name = record (new_rule name) { long = Some name; value_names = 1; action = Some Set; required = required }

-- an option with a value that may be left out
abbrev pub optional : Text → Rule
optional name = valued false name

-- an option with a value that has to be there
abbrev pub needed : Text → Rule
needed name = valued true name

-- an option with a value that may be there any number of times
abbrev pub repeated : Bool → Text → Rule
repeated required name = record (new_rule name) { long = Some name; value_names = 1; action = Some Append; required = required }

-- any number of words that belong to no option
abbrev pub words : Text → Rule
words name = record (new_rule name) {
  value_names = 1;
  range = Some (record { start_inclusive = 0; end_inclusive = usize_max });
  action = Some Append;
}

-- the options of the image: its HEX files and raw ones, the layout, the address that goes to chip address 0, and the names of the chosen regions
abbrev pub image : List Rule
image = repeated false (codes "hex") ∷ repeated false (codes "bin") ∷ optional (codes "layout") ∷ optional (codes "base") ∷ words (codes "names") ∷ []

-- those that choose what is erased
abbrev pub erased : List Rule
erased = optional (codes "layout") ∷ words (codes "names") ∷ []

-- what the image has to give
abbrev pub image_rules : List Rule
image_rules = flag (codes "strict") ∷ flag (codes "partial") ∷ flag (codes "beyond") ∷ []

-- the device that the chip is behind, and how that is read
abbrev pub device : List Rule
device =
    flag (codes "mode4") ∷ optional (codes "page") ∷ needed (codes "device") ∷ optional (codes "limit") ∷ flag (codes "raw") ∷ flag (codes "fresh")
    ∷ flag (codes "any-size") ∷ flag (codes "repeats") ∷ optional (codes "expect-id") ∷ []

-- how work on it is done
abbrev pub work : List Rule
work =
    flag (codes "erased-only") ∷ needed (codes "before") ∷ optional (codes "resume") ∷ flag (codes "dry-run") ∷ flag (codes "list") ∷ []

-- the options of the chip
abbrev pub chip : List Rule
chip = optional (codes "sfdp") ∷ optional (codes "uniform") ∷ optional (codes "sheet") ∷ optional (codes "bits") ∷ optional (codes "part") ∷ []

-- the file of what the chip holds, and its page
abbrev pub content : List Rule
content = needed (codes "content") ∷ optional (codes "page") ∷ []

-- the options of the chip's state when the script begins
abbrev pub start : List Rule
start = optional (codes "status") ∷ flag (codes "mode4") ∷ flag (codes "quad") ∷ flag (codes "erased-only") ∷ []

-- the options of the chip in memory
abbrev pub behaviour : List Rule
behaviour =
    optional (codes "busy") ∷ optional (codes "each-busy") ∷ flag (codes "keep") ∷ optional (codes "limit") ∷ []

-- whether the script reads back what it writes
abbrev pub verify : List Rule
verify = flag (codes "verify") ∷ []

-- the script's file
abbrev pub script : List Rule
script = needed (codes "script") ∷ []

-- whether a refusal has more lines
abbrev pub details : List Rule
details = flag (codes "json") ∷ flag (codes "details") ∷ flag (codes "plain") ∷ []

-- the commands, each by its name with its options
abbrev pub commands : List (Text × List Rule)
commands =
    (codes "build", image ++ chip ++ content ++ start ++ verify ++ flag (codes "strict") ∷ flag (codes "whole") ∷ needed (codes "out") ∷ flag (codes "force") ∷ details)
    ∷ (
      codes "plan",
      image ++ chip ++ content ++ start ++ verify ++ flag (codes "strict") ∷ flag (codes "whole") ∷ flag (codes "times") ∷ flag (codes "regions")
          ∷ optional (codes "map") ∷ flag (codes "force") ∷ details,
    )
    ∷ (codes "check", image ++ chip ++ content ++ start ++ script ++ flag (codes "strict") ∷ flag (codes "whole") ∷ flag (codes "witness") ∷ details)
    ∷ (codes "run", chip ++ content ++ start ++ script ++ behaviour ++ optional (codes "out") ∷ flag (codes "force") ∷ details)
    ∷ (codes "list", chip ++ start ++ script ++ details)
    ∷ (codes "draw", script ++ optional (codes "from") ∷ optional (codes "steps") ∷ needed (codes "out") ∷ flag (codes "force") ∷ details)
    ∷ (codes "play", chip ++ content ++ start ++ script ++ needed (codes "device") ∷ optional (codes "limit") ∷ flag (codes "trust") ∷ details)
    ∷ (codes "read", chip ++ device ++ optional (codes "tables") ∷ optional (codes "out") ∷ details)
    ∷ (codes "flash", image ++ chip ++ image_rules ++ device ++ work ++ flag (codes "near") ∷ details)
    ∷ (codes "erase", erased ++ chip ++ device ++ work ++ flag (codes "all") ∷ details)
    ∷ (codes "compare", image ++ chip ++ image_rules ++ device ++ details)
    ∷ (codes "sfdp", chip ++ details)
    ∷ (codes "hex", needed (codes "bin") ∷ needed (codes "at") ∷ needed (codes "out") ∷ flag (codes "force") ∷ details)
    ∷ (codes "script", chip ++ start ++ needed (codes "log") ∷ flag (codes "without-identity") ∷ needed (codes "out") ∷ flag (codes "force") ∷ details)
    ∷ (codes "explain", words (codes "words") ∷ [])
    ∷ []

-- a command of this name with these options
abbrev pub command : Text × List Rule → Shape
command (name, rules) = record (new_shape name) { rules = rules }

-- what stands before a command: nothing but --help and --version, and a command has to be there
abbrev pub norprog : Shape
norprog = record (new_shape (codes "norprog")) { is_leaf = false; no_binary_name = true; subcommand_required = true; has_version = true }

-- the program
abbrev pub program : App
program = record { top = norprog; subs = map command commands }
