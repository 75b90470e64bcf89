-- A walk over words without a fault doesn't stop at `help`.
use Rattle.std.proofs.Common.{◌≡◌, ◌∙◌, ◌∷◌, ℕ, List, [], Option, Some, None, Bool, true, false, ap, refl, sym, subst, codes}
use Rattle.std.specs.Prelude.{fold, not, ◌&&◌, if◌then◌else◌}
use Rattle.std.specs.Str.{bytes_eq}
use Rattle.clap.specs.Words.{Rule, Shape, Text}
use Rattle.clap.specs.Kinds.{Kinds, or_else}
use Rattle.clap.specs.Lexer.{long_of, short_of}
use Rattle.clap.specs.Walk.{Held, Names, Outcome, Step, Waiting, Walk, after_flag, after_step, arg_by_index, arg_by_long, bundle, done, idle, long_met, long_or_other, next, option, plain, plain_word, positional, refused, short_or_plain, subcommand, subcommand_met, subcommand_or_other, to_positional, trailing, value, waits, walked, word_met}
use Rattle.clap.specs.declared.error.kind.ErrorKind.TheVariants.{DisplayHelp, InvalidSubcommand}
use Rattle.clap.specs.Faults.{other_fault, turn_fault, walk_fault}
use Rattle.clap.proofs.WalkLemmas.{walk_stopped}

-- the subcommand that a step enters
abbrev entered_by : Step → Option Text
entered_by (subcommand name) = Some name
entered_by _ = None

plain_enters : (c : List Rule) (waiting : Waiting) (word : Text) (h : Held) → entered_by (plain_word c waiting word h).1 ≡ None
plain_enters c idle word h = refl
plain_enters c (option id) word h = refl
plain_enters c positional word h = refl

flag_enters : (c : List Rule) (waiting : Waiting) (word : Text) (h : Held) (o : Outcome) → entered_by (after_flag c waiting word h o).1 ≡ None
flag_enters c waiting word h done = refl
flag_enters c waiting word h (waits id) = refl
flag_enters c waiting word h plain = plain_enters c waiting word h
flag_enters c waiting word h refused = plain_enters c waiting word h

short_enters : (c : List Rule) (waiting : Waiting) (word : Text) (o : Option Text) (h : Held) → entered_by (short_or_plain c waiting word o h).1 ≡ None
short_enters c waiting word (Some flags) h = flag_enters c waiting word (bundle c flags h).0 (bundle c flags h).1
short_enters c waiting word None h = plain_enters c waiting word h

long_enters : (c : List Rule) (waiting : Waiting) (word : Text) (o : Option (Text × Option Text)) (h : Held) → entered_by (long_or_other c waiting word o h).1 ≡ None
long_enters c waiting word (Some p) h = flag_enters c waiting word (long_met c (arg_by_long c p.0) p.1 h).0 (long_met c (arg_by_long c p.0) p.1 h).1
long_enters c waiting word None h = short_enters c waiting word (short_of word) h

other_enters : (c : List Rule) (o : Option Text) (waiting : Waiting) (position : ℕ) (word : Text) (h : Held) → entered_by (subcommand_or_other c o waiting position word h).1 ≡ o
other_enters c (Some name) waiting position word h = refl
other_enters c None waiting position word h = go (bytes_eq word (45 ∷ 45 ∷ []))
  where
    go : (b : Bool) → entered_by (if b then (h, trailing position) else long_or_other c waiting word (long_of word) h).1 ≡ None
    go true = refl
    go false = long_enters c waiting word (long_of word) h

-- a step that enters no subcommand goes on
goes_on : (c : List Rule) (word : Text) (v : Walk) (h : Held) (step : Step) → entered_by step ≡ None
    → after_step c word (record v { stopped = None }) h step ≡ record (after_step c word (record v { stopped = None }) h step) { stopped = None }
goes_on c word v h (next waiting) e = refl
goes_on c word v h (trailing position) e = refl
goes_on c word v h (subcommand name) e = cc
goes_on c word v h value e = go (arg_by_index c v.position)
  where
    go : (o : Option Rule) → to_positional c o word (record v { stopped = None }) h ≡ record (to_positional c o word (record v { stopped = None }) h) { stopped = None }
    go None = refl
    go (Some a) = refl

-- a step that enters one stops the walk there
stops_at : (c : List Rule) (word name : Text) (v : Walk) (h : Held) (step : Step) → entered_by step ≡ Some name
    → after_step c word (record v { stopped = None }) h step ≡ record v { held = h; stopped = Some (name, []) }
stops_at c word name v h (next waiting) e = cc
stops_at c word name v h (trailing position) e = cc
stops_at c word name v h (subcommand other) e = ap (λ (n : Text). record v { held = h; stopped = Some (n, []) }) cc
stops_at c word name v h value e = cc

pub neither : (a b : Kinds) → or_else a b ≡ [] → (a ≡ []) × (b ≡ [])
neither [] b e = (refl, e)
neither (k ∷ ks) b e = cc

helps : {A : Type 0} (b : Bool) (x : A) (xs : List A) → if◌then◌else◌ {A = List A} (b && not false) (x ∷ xs) [] ≡ [] → b ≡ false
helps false x xs e = refl
helps true x xs e = cc

-- without a fault the subcommand that a word names isn't `help`
not_help : (s : Shape) (name word : Text) (h : Held) → s.disable_help_subcommand ≡ false → other_fault s (Some name) word h ≡ []
    → bytes_eq name (codes "help") ≡ false
not_help s name word h offers e =
    helps (bytes_eq name (codes "help")) _ _ (subst (λ disabled. if bytes_eq name (codes "help") && not disabled then DisplayHelp ∷ InvalidSubcommand ∷ [] else [] ≡ []) offers e)

named : (is_trailing : Bool) (met : Option Text) (s : Shape) (name word : Text) (h : Held)
    → (if is_trailing then None else met) ≡ Some name → (if is_trailing then [] else other_fault s met word h) ≡ []
    → other_fault s (Some name) word h ≡ []
named true met s name word h e fault = cc
named false met s name word h e fault = subst (λ o. other_fault s o word h ≡ []) e fault

word_enters : (c : List Rule) (names : Names) (is_trailing : Bool) (waiting : Waiting) (position : ℕ) (word : Text) (h : Held)
    → entered_by (word_met c names is_trailing waiting position word h).1 ≡ (if is_trailing then None else subcommand_met names waiting word)
word_enters c names true waiting position word h = refl
word_enters c names false waiting position word h = other_enters c (subcommand_met names waiting word) waiting position word h

some_stop : (a : Text) (rest : List Text) (p : Text × List Text) → Some (a, rest) ≡ Some p → a ≡ p.0
some_stop a rest p e = cc

module _ (s : Shape) (names : Names) (offers : s.disable_help_subcommand ≡ false) where
  met_at : Walk → Text → Held × Step
  met_at v word = word_met s.rules names v.is_trailing v.waiting v.position word v.held

  -- where the walk is without a fault and stops at p, p isn't `help`
  abbrev pub IsHelped : Walk → List Text → Text × List Text → Type 0
  IsHelped v words p = walk_fault s names (record v { stopped = None }) words ≡ []
      → (fold (walked s.rules names) (record v { stopped = None }) words).stopped ≡ Some p → bytes_eq p.0 (codes "help") ≡ false

  by_word : (word : Text) (rest : List Text) (v : Walk) (p : Text × List Text) → ((after : Walk) → IsHelped after rest p)
      → (o : Option Text) → entered_by (met_at v word).1 ≡ o → IsHelped v (word ∷ rest) p
  unfolding walk_fault walked met_at
  by_word word rest v p again None enters fault e =
      let on = goes_on s.rules word v (met_at v word).0 (met_at v word).1 enters in
      again (after_step s.rules word (record v { stopped = None }) (met_at v word).0 (met_at v word).1)
      (subst (λ w. walk_fault s names w rest ≡ []) on (neither _ _ fault).1)
      (subst (λ (w : Walk). (fold (walked s.rules names) w rest).stopped ≡ Some p) on e)
  by_word word rest v p again (Some name) enters fault e =
      let turns : turn_fault s names (record v { stopped = None }) word ≡ [] = (neither _ _ fault).0 in
      let at = stops_at s.rules word name v (met_at v word).0 (met_at v word).1 enters in
      let stop : Some (name, rest) ≡ Some p =
      ap (λ (w : Walk). w.stopped) (walk_stopped s.rules names (record v { held = (met_at v word).0 }) name [] rest)
      ∙ subst (λ (w : Walk). (fold (walked s.rules names) w rest).stopped ≡ Some p) at e in
      let here = named v.is_trailing (subcommand_met names v.waiting word) s name word v.held
      (sym (word_enters s.rules names v.is_trailing v.waiting v.position word v.held) ∙ enters) (neither _ _ turns).0 in
      subst (λ n. bytes_eq n (codes "help") ≡ false) (some_stop name rest p stop) (not_help s name word v.held offers here)

  pub helped : (words : List Text) (v : Walk) (p : Text × List Text) → IsHelped v words p
  helped [] v p fault e = cc
  helped (word ∷ rest) v p fault e = by_word word rest v p (λ after. helped rest after p) (entered_by (met_at v word).1) refl fault e
