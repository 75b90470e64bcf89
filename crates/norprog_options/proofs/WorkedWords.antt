-- What the program makes of some words, worked out by hand.
use Rattle.std.proofs.Common.{◌≡◌, ◌∷◌, List, [], Option, Some, None, codes, refl}
use Rattle.std.specs.Prelude.{option_map}
use Rattle.clap.specs.Words.{Row, Text, fault_of, first_of, many_of, one_of, subcommand_of}
use Rattle.clap.specs.declared.error.kind.ErrorKind.TheVariants.{DisplayHelp, MissingRequiredArgument, UnknownArgument}
use Rattle.clap.proofs.OnLiterals.{clap_on_literals}
use Rattle.norprog_options.specs.Program.{program}

-- a chip in four-byte mode whose quad enable bit isn't set
list_words : List Text
list_words = codes "list" ∷ codes "--mode4" ∷ codes "--uniform=8192" ∷ codes "--script" ∷ codes "a.script" ∷ []

in_used : {X : Type 0} → (List Row → X) → List Text → Option X
in_used read words = option_map (λ used. read used.1) (subcommand_of program words)

is_list : option_map (λ used. used.0) (subcommand_of program list_words) ≡ Some (codes "list")
unfolding clap_on_literals list_words
is_list = refl

mode4_is_set : in_used (one_of (codes "mode4")) list_words ≡ Some (Some (codes "true"))
unfolding clap_on_literals list_words in_used
mode4_is_set = refl

quad_is_not : in_used (one_of (codes "quad")) list_words ≡ Some (Some (codes "false"))
unfolding clap_on_literals list_words in_used
quad_is_not = refl

uniform_is_8192 : in_used (first_of (codes "uniform")) list_words ≡ Some (Some (codes "8192"))
unfolding clap_on_literals list_words in_used
uniform_is_8192 = refl

has_no_part : in_used (first_of (codes "part")) list_words ≡ Some None
unfolding clap_on_literals list_words in_used
has_no_part = refl

lists : fault_of program list_words ≡ []
unfolding clap_on_literals list_words
lists = refl

-- without the script, with an option of another command, and with a word too many
lacks_script : fault_of program (codes "list" ∷ []) ≡ MissingRequiredArgument ∷ []
unfolding clap_on_literals
lacks_script = refl

has_no_hex : fault_of program (codes "list" ∷ codes "--hex" ∷ codes "a.hex" ∷ []) ≡ UnknownArgument ∷ []
unfolding clap_on_literals
has_no_hex = refl

wants_help : fault_of program (codes "list" ∷ codes "--help" ∷ []) ≡ DisplayHelp ∷ []
unfolding clap_on_literals
wants_help = refl

-- the words of explain
explains : in_used (many_of (codes "words")) (codes "explain" ∷ codes "hex" ∷ codes "4" ∷ []) ≡ Some (Some (codes "hex" ∷ codes "4" ∷ []))
unfolding clap_on_literals in_used
explains = refl
