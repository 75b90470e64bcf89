-- A command with one more option, and a program with one more command.
use Rattle.std.proofs.Common.{◌≡◌, ◌∙◌, ◌++◌, ◌∷◌, ◌+◌, ◌<◌, ℕ, List, [], ap, ap₂, length, map, take, sym}
use Rattle.std.specs.Prelude.{Bool, true, false, Some, codes, not, ◌&&◌, refl}
use Rattle.std.proofs.lemmas.List.{append_assoc, map_more, map-append}
use Rattle.std.specs.List.{slice_index_or}
use Rattle.clap.specs.Words.{App, Rule, Shape, Text, app_of, new_app, with_rule, with_subcommand}
use Rattle.clap.specs.Simple.{app_of_fields}
use Rattle.clap.specs.declared.builder.command.Command.{Command}
use Rattle.clap.specs.declared.builder.command.Command.TheOpen.{Command-F}
use Rattle.clap.specs.declared.builder.command.Command.TheViews.{out-Command as fields_of}
use Rattle.norprog_options.specs.declared.arguments.Form.{Form}
use Rattle.norprog_options.specs.Program.{command, norprog}
use Rattle.norprog_options.specs.declared.arguments.Choice.{Choice}
use Rattle.norprog_options.specs.Table.{command_of, option_of, with_options}

joined : (start : App) (one other : List Rule) → with_options (with_options start one) other ≡ with_options start (one ++ other)
joined start one other = ap (λ rules. record start { top = record start.top { rules = rules } }) (append_assoc start.top.rules one other)

pub more_options : (start now next : App) (choices : List Choice) (i : ℕ) (d : Choice) (r : Rule)
    → i < length choices → now ≡ with_options start (map option_of (take i choices))
    → next ≡ with_rule now r → r ≡ option_of (slice_index_or choices i d)
    → next ≡ with_options start (map option_of (take (i + 1) choices))
more_options start now next choices i d r below held step is =
    step ∙ ap₂ with_rule held is ∙ joined start (map option_of (take i choices)) (option_of (slice_index_or choices i d) ∷ [])
    ∙ ap (with_options start) (sym (map_more option_of choices i d below))

-- the program with the first of its commands
abbrev pub so_far : List (Text × List Rule) → App
so_far [] = record { top = record norprog { is_leaf = true }; subs = [] }
so_far (x ∷ xs) = record { top = norprog; subs = map command (x ∷ xs) }

pushed : (first : List (Text × List Rule)) (next : Text × List Rule) → with_subcommand (so_far first) (command next) ≡ so_far (first ++ next ∷ [])
pushed [] next = refl
pushed (x ∷ xs) next = ap (λ subs. record { top = norprog; subs = subs }) (sym (map-append command (x ∷ xs) (next ∷ [])))

pub one_more : (now next : App) (forms : List Form) (i : ℕ) (d : Form) (s : Shape)
    → i < length forms → now ≡ so_far (map command_of (take i forms))
    → next ≡ with_subcommand now s → s ≡ command (command_of (slice_index_or forms i d))
    → next ≡ so_far (map command_of (take (i + 1) forms))
one_more now next forms i d s below held step is =
    step ∙ ap₂ with_subcommand held is ∙ pushed (map command_of (take i forms)) (command_of (slice_index_or forms i d))
    ∙ ap so_far (sym (map_more command_of forms i d below))

third : (a b global rest : Bool) → (a && (b && (not global && rest))) ≡ true → global ≡ false
third true true false rest e = refl
third false b global rest e = cc
third true false global rest e = cc
third true true true rest e = cc

-- a plain command has no global argument
pub is_local : (c : Command) → (app_of c).top.is_plain ≡ true → (fields_of c).has_globals ≡ false
is_local c e = third _ _ _ _ e

-- the program with its settings, before its commands
pub settled : (new named said bare asks done : Command) (name about version : _)
    → fields_of named ≡ record (fields_of new) { bin_name = name } → fields_of said ≡ record (fields_of named) { about = about }
    → fields_of bare ≡ record (fields_of said) { no_binary_name = true } → fields_of asks ≡ record (fields_of bare) { subcommand_required = true }
    → fields_of done ≡ record (fields_of asks) { version = Some version } → app_of new ≡ new_app (codes "norprog")
    → app_of done ≡ so_far []
settled new named said bare asks done name about version e1 e2 e3 e4 e5 e =
    ap app_of_fields (e5
    ∙ ap (λ (f : Command-F Command). record f { version = Some version }) (e4
    ∙ ap (λ (f : Command-F Command). record f { subcommand_required = true }) (e3
    ∙ ap (λ (f : Command-F Command). record f { no_binary_name = true }) (e2
    ∙ ap (λ (f : Command-F Command). record f { about = about }) e1))))
    ∙ ap (λ (a : App). record a { top = record a.top { no_binary_name = true; subcommand_required = true; has_version = true } }) e
