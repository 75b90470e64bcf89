-- The matches that the library has for the words are those of the program.
use Rattle.std.proofs.Common.{◌≡◌, ◌≢◌, ◌∙◌, ◌∷◌, inl, inr, List, [], Option, Some, None, ap, map, refl, subst, sym, true}
use Rattle.std.specs.Prelude.{option_map}
use Rattle.clap.specs.Kinds.{HasKind, IsAmong}
use Rattle.clap.specs.Words.{App, HasMatchesOf, Row, Rule, Text, fault_of, is_simple, is_simple_and_free, kind_of}
use Rattle.clap.specs.Words.{subcommand_name_of, subcommand_of, subcommand_rows_of}
use Rattle.clap.specs.declared.error.Error.{Error}
use Rattle.clap.specs.declared.error.kind.ErrorKind.{ErrorKind}
use Rattle.clap.specs.declared.error.kind.ErrorKind.TheVariants.{OutOfMemory}
use Rattle.clap.specs.declared.parser.matches.ArgMatches.{ArgMatches}
use Rattle.clap.specs.declared.parser.matches.ArgMatches.TheViews.{out-ArgMatches}
use Rattle.norprog_common.specs.declared.faults.Refusal.{Refusal}
use Rattle.norprog_common.specs.declared.faults.Refusal.TheVariants as refusal
use Rattle.norprog_options.specs.declared.options.Line.{Line}
use Rattle.norprog_options.specs.Options.{IsAsked, name_of}
use Rattle.norprog_options.specs.Program.{commands, program}
use Rattle.norprog_options.specs.Spelled.{IsNoneUsed, IsRefusalOf, IsUnasked, Refuses, Spells, command_names}
use Rattle.norprog_options.specs.Typed.{IsDetailed}
use Rattle.norprog_options.proofs.FitsLemmas.{IsOneOf, enters}
use Rattle.norprog_options.proofs.UsedLemmas.{of_some}

-- the library's contract gives the matches of a program like this
is_read : is_simple program ≡ true
is_read = refl

-- and says which words it refuses
is_judged : is_simple_and_free program ≡ true
is_judged = refl

pub spelled : (app : App) (words : List Text) (m : ArgMatches) (line : Line) → app ≡ program → HasMatchesOf app words m
    → (is_simple_and_free app ≡ true → fault_of app words ≡ []) → IsAsked m line.asked → IsDetailed m line.details → Spells words line
spelled app words m line is read judged asked details =
    let used : subcommand_rows_of m ≡ subcommand_of program words =
    (read (ap is_simple is ∙ is_read)).1 ∙ ap (λ (a : App). subcommand_of a words) is in
    record {
      fits = sym (ap (λ (a : App). fault_of a words) is) ∙ judged (ap is_simple_and_free is ∙ is_judged);
      found = asked.found;
      used = sym used ∙ asked.used;
      asked = asked.so;
      details = details (name_of line.asked) asked.found asked.used;
    }

clear : (kinds : List ErrorKind) (e : Error) → HasKind kinds e → kind_of e ≢ OutOfMemory → kinds ≢ []
clear kinds e (inl memory) other none = other memory
clear kinds e (inr among) other none = subst (λ ks. IsAmong (kind_of e) ks) none among

-- an error of the library comes where the words have a fault
pub refused : (app : App) (words : List Text) (e : Error) (why : Refusal) → app ≡ program
    → (is_simple_and_free app ≡ true → HasKind (fault_of app words) e) → IsRefusalOf (kind_of e) why → Refuses words why
refused app words e (refusal.Text text) is judged told =
    subst (λ (a : App). fault_of a words ≢ []) is (clear (fault_of app words) e (judged (ap is_simple_and_free is ∙ is_judged)) told)
refused app words e (refusal.Build why) is judged told = told
refused app words e refusal.Usage is judged told = told
refused app words e (refusal.File file) is judged told = told
refused app words e refusal.Page is judged told = told
refused app words e (refusal.Script why) is judged told = told
refused app words e refusal.BinSize is judged told = told
refused app words e (refusal.BinLength length) is judged told = told
refused app words e refusal.BinRegion is judged told = told
refused app words e (refusal.Conflict at) is judged told = told
refused app words e (refusal.Steps n) is judged told = told
refused app words e (refusal.EmptyRegion n) is judged told = told
refused app words e (refusal.Partial gap) is judged told = told
refused app words e (refusal.Beyond stray) is judged told = told
refused app words e refusal.Nowhere is judged told = told
refused app words e (refusal.Log n) is judged told = told

named : {S : Type 0} (name : S → Text) (rows : S → List Row) (o : Option S) (n : Text) (r : List Row)
    → option_map {U = Text × List Row} (λ s. (name s, rows s)) o ≡ Some (n, r) → option_map name o ≡ Some n
named name rows None n r e = cc
named name rows (Some s) n r e = ap (λ (p : Text × List Row). Some p.0) (of_some _ _ e)

none_of : (m : ArgMatches) (name : Text) (cs : List (Text × List Rule)) → subcommand_name_of m ≡ Some name → IsOneOf name cs
    → IsNoneUsed (map (λ c. c.0) cs) m → ⊥
none_of m name [] e is none = is
none_of m name (c ∷ cs) e (inl same) none = none.0 (e ∙ ap (λ (n : Text). Some n) (sym same))
none_of m name (c ∷ cs) e (inr later) none = none_of m name cs e later none.1

-- words without a fault ask for a command
pub unasked : (app : App) (words : List Text) (m : ArgMatches) (why : Refusal) → app ≡ program → HasMatchesOf app words m
    → (is_simple_and_free app ≡ true → fault_of app words ≡ []) → IsUnasked command_names m why → Refuses words why
unasked app words m refusal.Usage is read judged none =
    let fits : fault_of program words ≡ [] = sym (ap (λ (a : App). fault_of a words) is) ∙ judged (ap is_simple_and_free is ∙ is_judged) in
    let used : subcommand_rows_of m ≡ subcommand_of program words =
    (read (ap is_simple is ∙ is_read)).1 ∙ ap (λ (a : App). subcommand_of a words) is in
    let entered = enters words fits in
    none_of m entered.name commands (named _ _ (out-ArgMatches m).subcommand entered.name entered.rows (used ∙ entered.used)) entered.among none
unasked app words m (refusal.Build why) is read judged told = told
unasked app words m (refusal.Text text) is read judged told = elim told [ ]
unasked app words m (refusal.File file) is read judged told = told
unasked app words m refusal.Page is read judged told = told
unasked app words m (refusal.Script why) is read judged told = told
unasked app words m refusal.BinSize is read judged told = told
unasked app words m (refusal.BinLength length) is read judged told = told
unasked app words m refusal.BinRegion is read judged told = told
unasked app words m (refusal.Conflict at) is read judged told = told
unasked app words m (refusal.Steps n) is read judged told = told
unasked app words m (refusal.EmptyRegion n) is read judged told = told
unasked app words m (refusal.Partial gap) is read judged told = told
unasked app words m (refusal.Beyond stray) is read judged told = told
unasked app words m refusal.Nowhere is read judged told = told
unasked app words m (refusal.Log n) is read judged told = told
