-- The command that was used, and its options by what the library found.
use Rattle.std.proofs.Common.{◌≡◌, ◌∙◌, ◌∷◌, ◌++◌, List, [], Option, Some, None, ap, ap₂, map, refl, sym, subst, Bool}
use Rattle.std.specs.Prelude.{option_map, unwrap_or, codes, is_some, IfSome}
use Rattle.clap.specs.Words.{Row, Text, all_of, rows_of}
use Rattle.clap.specs.Words.{subcommand_name_of, subcommand_rows_of}
use Rattle.clap.proofs.WalkLemmas.{raw_values-rows}
use Rattle.clap.specs.declared.parser.matches.ArgMatches.{ArgMatches}
use Rattle.clap.specs.declared.parser.matches.ArgMatches.TheViews.{out-ArgMatches}
use Rattle.clap.specs.declared.parser.matches.Found.{Found}
use Rattle.norprog_options.specs.declared.typed.TypedLine.{TypedLine}
use Rattle.norprog_options.specs.Options.{texts_of}
use Rattle.norprog_options.specs.Typed.{IsDetailed, IsDetailedBy, IsLineIn, option_names, typed_in}

-- a name and what belongs to it
paired : {S : Type 0} (name : S → Text) (rows : S → List Row) (o : Option S) (n : Text) (r : List Row)
    → option_map name o ≡ Some n → option_map (λ (p : Text × List Row). p.1) (option_map {U = Text × List Row} (λ s. (name s, rows s)) o) ≡ Some r
    → option_map {U = Text × List Row} (λ s. (name s, rows s)) o ≡ Some (n, r)
paired name rows None n r e f = cc
paired name rows (Some s) n r e f = cc

-- a command was used by its name, with these options
pub used_by : (m : ArgMatches) (name : Text) (rows : List Row) → subcommand_name_of m ≡ Some name
    → option_map (λ used. used.1) (subcommand_rows_of m) ≡ Some rows → subcommand_rows_of m ≡ Some (name, rows)
used_by m name rows e f = paired _ _ (out-ArgMatches m).subcommand name rows e f

-- or by another text that is its name
pub used_as : (o : Option (Text × List Row)) (rows : List Row) (name other : Text) → o ≡ Some (name, rows) → other ≡ name → o ≡ Some (other, rows)
used_as o rows name other used same = used ∙ ap (λ (n : Text). Some (n, rows)) (sym same)

-- ---- the same rows have the same values

texts_same : (one other : Found) (name : Text) → rows_of one ≡ rows_of other → texts_of one name ≡ texts_of other name
texts_same one other name e =
    ap (λ o. unwrap_or o []) (raw_values-rows one name ∙ ap (all_of name) e ∙ sym (raw_values-rows other name))

typed_same : (names : List Text) (one other : Found) → rows_of one ≡ rows_of other → typed_in names one ≡ typed_in names other
typed_same [] one other e = refl
typed_same (name ∷ names) one other e =
    ap₂ (λ values rest. map (λ (value : Text). (name, value)) values ++ rest) (texts_same one other name e) (typed_same names one other e)

line_same : (command : Text) (one other : Found) (details : Option TypedLine) → rows_of one ≡ rows_of other
    → IfSome details (IsLineIn command one) → IfSome details (IsLineIn command other)
line_same command one other None e is = tt
line_same command one other (Some line) e is = record {
  named = is.named;
  typed = is.typed ∙ typed_same option_names one other e;
  regions = is.regions ∙ texts_same one other (codes "names") e;
}

-- ---- where more is to be said

pub of_some : (one other : Text × List Row) → Some one ≡ Some other → one ≡ other
of_some one other e = cc

-- what was found of one use of the command is so of each list of the same rows
pub detailed : (m : ArgMatches) (name : Text) (found : Found) (details : Option TypedLine)
    → Some name ≡ subcommand_name_of m → Some (rows_of found) ≡ option_map (λ used. used.1) (subcommand_rows_of m)
    → IsDetailedBy name found details → IsDetailed m details
detailed m name found details named rows is command other e =
    let both = of_some (name, rows_of found) (command, rows_of other) (sym (used_by m name (rows_of found) (sym named) (sym rows)) ∙ e) in
    subst (λ n. IsDetailedBy n other details) (ap (λ (used : Text × List Row). used.0) both) (line_same name found other details (ap (λ (used : Text × List Row). used.1) both) is)

unnamed : {S : Type 0} (name : S → Text) (rows : S → List Row) (o : Option S) (n : Text) (r : List Row)
    → None ≡ option_map name o → option_map {U = Text × List Row} (λ s. (name s, rows s)) o ≡ Some (n, r) → ⊥
unnamed name rows None n r e f = cc
unnamed name rows (Some s) n r e f = cc

-- no command was used
pub undetailed : (m : ArgMatches) (details : Option TypedLine) → None ≡ subcommand_name_of m → IsDetailed m details
undetailed m details none command found e = absurd (unnamed _ _ (out-ArgMatches m).subcommand command (rows_of found) none e)
