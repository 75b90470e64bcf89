-- Words without a fault name one of the program's commands.
use Rattle.std.proofs.Common.{◌≡◌, ◌++◌, ◌∷◌, ◌⊎◌, inl, inr, List, [], Option, Some, None, Bool, true, false, ap, map, refl, sym, codes}
use Rattle.std.specs.Prelude.{find, ◌||◌, if◌then◌else◌, is_some, option_map}
use Rattle.std.specs.Str.{bytes_eq}
use Rattle.std.proofs.lemmas.Slice.Eq.{bytes_eq-Decides}
use Rattle.clap.specs.Words.{App, Row, Rule, Shape, Text, built, fault_of, subcommand_of}
use Rattle.clap.specs.Faults.{check_fault, defaults_fault, entered_fault, settle_fault, walk_fault}
use Rattle.clap.specs.Simple.{built_leaf, entered, help_shape, inherited, label_of, names_of, rows_at}
use Rattle.clap.specs.Walk.{answers_to, finished, nothing_held, settled, walk, walk_from}
use Rattle.norprog_options.specs.Program.{command, commands, program}
use Rattle.norprog_options.proofs.HelpLemmas.{helped, neither}

abbrev pub whole : App
whole = built program

-- a command as the library has it after building
abbrev pub leaf : Text × List Rule → Shape
leaf c = built_leaf (inherited whole.top (command c))

abbrev pub leaves : List (Text × List Rule) → List Shape
leaves cs = map leaf cs ++ built_leaf help_shape ∷ []

-- the command is one of these
abbrev pub IsOneOf : Text → List (Text × List Rule) → Type 0
IsOneOf name [] = ⊥
IsOneOf name (c ∷ cs) = (c.0 ≡ name) ⊎ IsOneOf name cs

same_bytes : (a b : Text) → bytes_eq a b ≡ true → bytes_eq b a ≡ true
same_bytes a b e = (bytes_eq-Decides b a).1 (sym ((bytes_eq-Decides a b).0 e))

is_help : (b : Bool) (shape : Shape) → if◌then◌else◌ {A = Option Shape} b (Some (built_leaf help_shape)) None ≡ Some shape → b ≡ true
is_help true shape e = refl
is_help false shape e = cc

or_false : (b : Bool) → (b || false) ≡ true → b ≡ true
or_false true e = refl
or_false false e = cc

of_some : (one other : Shape) → Some one ≡ Some other → one ≡ other
of_some one other e = cc

among_more : (c : Text × List Rule) (cs : List (Text × List Rule)) (s : Shape) (b : Bool) (rest : Option Shape)
    → if◌then◌else◌ {A = Option Shape} b (Some (leaf c)) rest ≡ Some s → (rest ≡ Some s → IsOneOf s.name cs) → IsOneOf s.name (c ∷ cs)
among_more c cs s true rest e again = inl (ap (λ (x : Shape). x.name) (of_some _ _ e))
among_more c cs s false rest e again = inr (again e)

among : (cs : List (Text × List Rule)) (p : Text) (s : Shape) → bytes_eq p (codes "help") ≡ false
    → find (λ x. answers_to p (label_of x)) (leaves cs) ≡ Some s → IsOneOf s.name cs
among [] p s isnt e =
    let helps : bytes_eq p (codes "help") ≡ true = same_bytes (codes "help") p (or_false _ (is_help _ s e)) in cc
among (c ∷ cs) p s isnt e =
    among_more c cs s (answers_to p (label_of (leaf c))) (find (λ x. answers_to p (label_of x)) (leaves cs)) e (λ f. among cs p s isnt f)

-- a command was entered, one of these
pub record IsEntered (entered : Option (Text × List Row)) (cs : List (Text × List Rule)) : Type 0 where
  pub name : Text
  pub rows : List Row
  pub used : entered ≡ Some (name, rows)
  pub among : IsOneOf name cs

entered_at : (p : Text × List Text) (o : Option Shape) → is_some (option_map (λ s. rows_at s p.1) o) ≡ true
    → ((s : Shape) → o ≡ Some s → IsOneOf s.name commands) → IsEntered (option_map (λ s. rows_at s p.1) o) commands
entered_at p None some is = cc
entered_at p (Some s) some is = record { name = s.name; rows = (rows_at s p.1).1; used = refl; among = is s refl }

entered_by : (stop : Option (Text × List Text)) → is_some (entered whole stop) ≡ true
    → ((p : Text × List Text) → stop ≡ Some p → bytes_eq p.0 (codes "help") ≡ false) → IsEntered (entered whole stop) commands
entered_by None some isnt = cc
entered_by (Some p) some isnt =
    entered_at p (find (λ s. answers_to p.0 (label_of s)) whole.subs) some (λ s e. among commands p.0 s (isnt p refl) e)

wants_command : (rows : List Row) (b : Bool) → check_fault whole.top rows b ≡ [] → b ≡ true
wants_command rows true e = refl
wants_command rows false e = cc

pub enters : (words : List Text) → fault_of program words ≡ [] → IsEntered (subcommand_of program words) commands
enters words e =
    let end = walk whole.top.rules (names_of whole) nothing_held words in
    let walked_well : walk_fault whole.top (names_of whole) (walk_from nothing_held) words ≡ [] = (neither (walk_fault whole.top (names_of whole) (walk_from nothing_held) words) _ e).0 in
    let checked : check_fault whole.top (finished whole.top.rules end.held) (is_some (entered whole end.stopped)) ≡ [] =
    (neither (defaults_fault (settled whole.top.rules end.held).rows whole.top.rules) _
    (neither (settle_fault whole.top.rules whole.top.args_override_self end.held) _
    (neither (entered_fault whole end.stopped) _
    (neither (walk_fault whole.top (names_of whole) (walk_from nothing_held) words) _ e).1).1).1).1 in
    entered_by end.stopped (wants_command (finished whole.top.rules end.held) _ checked)
    (λ p at. helped whole.top (names_of whole) refl words (walk_from nothing_held) p walked_well at)
