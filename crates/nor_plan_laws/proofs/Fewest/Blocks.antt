-- Each erased block has an erase in each run that does the task and erases no more, and an erase starts in one block.
use Rattle.std.proofs.Common.{◌≡◌, ℕ, ◌+◌, ◌/◌, ◌<◌, ◌≤◌, nat_le, nat_lt, Bool, true, false, cond, ◌&&◌, ◌||◌, List, [], ◌∷◌, Option, Some, None, option_map, Ok, refl, sym, ◌∙◌, ap, subst, arith, inl, inr, leb-true, ltb-true, le-leb}
use Rattle.std.specs.Prelude.{is_some}
use Rattle.std.specs.List.{AllByRecursion, list_any, count_by}
use Rattle.std.specs.Option.{option_map_or}
use Rattle.std.proofs.lemmas.Bool.{and_parts, lt-ltb, not-false, or_cases, or_parts}
use Rattle.std.proofs.Math.Bool.{or-true}
use Rattle.std.proofs.lemmas.List.Sums.{sum_by-cons}
use Rattle.nor_base.specs.declared.instruction.What.{What}
use Rattle.nor_base.specs.declared.instruction.What.TheVariants as what
use Rattle.nor_base.specs.declared.meaning.Erase.{Erase}
use Rattle.nor_base.specs.declared.meaning.Start.{Start}
use Rattle.nor_base.specs.declared.step.Step.{Step}
use Rattle.nor_base.specs.Parameters.{Parameters, erase_kind, block_size}
use Rattle.nor_base.specs.Accepted.{IsAccepted}
use Rattle.nor_base.specs.Decoding.{Instruction, decode}
use Rattle.nor_base.specs.Blocks.{Block, IsLegalBlock, is_legal}
use Rattle.nor_base.specs.Chip.{Setting, Chip, IsChipOf, ready}
use Rattle.nor_base.specs.Effect.{is_out_of_range, effect, effect_if}
use Rattle.nor_base.specs.Run.{run, DoesTask}
use Rattle.nor_base.specs.Strategies.{strategy, reaches}
use Rattle.nor_base.specs.Need.{is_due, is_needed, erased_at, levelled}
use Rattle.nor_base.specs.Units.{WorkUnit, pages, units}
use Rattle.nor_base.specs.Planned.{planned_units, IsWorkable}
use Rattle.nor_base.specs.Events.{Event, events, events_from, erases_address, is_erased_by, is_erase, erases_seen}
use Rattle.nor_base.proofs.ListLaws.{all_append}
use Rattle.nor_laws.proofs.EffectLaws.{taken}
use Rattle.nor_geometry.proofs.KindLemmas.{legal_kind, size_of}
use Rattle.nor_plan_laws.specs.Fewest.{IsReachedSeen, NoScriptHasFewerErases}
use Rattle.nor_plan_laws.proofs.Task.Whole.{units_sound}
use Rattle.nor_plan_laws.proofs.Spelling.Sent.{IsFrom, units_from, own_page}
use Rattle.nor_plan_laws.proofs.Erased.Erasing.{erased_all, erased_for}
use Rattle.nor_plan_laws.proofs.Erased.Needed.{erased_needed, erases_largest}
use Rattle.nor_plan_laws.proofs.Erased.Least.{no_script_erases_less}
use Rattle.nor_plan_laws.proofs.Runs.Once.{block_holds_it, holding, at_most_one}
use Rattle.nor_plan_laws.proofs.Fewest.Relates.{run_related}
use Rattle.nor_plan_laws.proofs.Fewest.Touched.{on_address}
use Rattle.nor_plan_laws.proofs.Fewest.Few.{count_false, count_or}

-- an erase that was seen is of a legal block
abbrev IsLegalSeen : Parameters → Option Instruction → Type 0
IsLegalSeen m seen = (i : Instruction) (kind : ℕ) → seen ≡ Some i → i.what ≡ what.Erase kind → is_legal m kind i.address ≡ true

legal_by : (m : Parameters) (i : Instruction) (kind : ℕ) (w : What) → w ≡ what.Erase kind → is_out_of_range m (record i { what = w }) ≡ false → is_legal m kind i.address ≡ true
unfolding is_out_of_range
legal_by m i kind w is range =
    let erase : is_out_of_range m (record i { what = what.Erase kind }) ≡ false = ap (λ (v : What). is_out_of_range m (record i { what = v })) (sym is) ∙ range in
    not-false (is_legal m kind i.address) (or_parts (nat_le m.size i.address) _ erase).1

seen_legal : (s : Setting) (c d : Chip) (seen : Option Instruction) (bytes : List ℕ) → effect_if s c seen ≡ Ok (d, bytes) → IsLegalSeen s.meaning seen
seen_legal s c d None bytes h i kind there is = cc
seen_legal s c d (Some j) bytes h i kind there is =
    let same : j ≡ i = cc in
    let range : is_out_of_range s.meaning i ≡ false = subst (λ (i : Instruction). is_out_of_range s.meaning i ≡ false) same (taken s c j d bytes h).in_range in
    legal_by s.meaning i kind i.what is range

one_legal : (s : Setting) (n : ℕ) (c d : Chip) (clocks bytes : List ℕ) → effect s c clocks ≡ Ok (d, bytes)
    → AllByRecursion (λ (e : Event). IsLegalSeen s.meaning e.seen) (record { step = n; seen = decode s.meaning c.mode4 clocks; chip = d } ∷ [])
unfolding effect
one_legal s n c d clocks bytes h = (seen_legal s c d (decode s.meaning c.mode4 clocks) bytes h, tt)

run_legal : (s : Setting) (c d : Chip) (steps : List Step) → run s c steps ≡ Ok d → AllByRecursion (λ (e : Event). IsLegalSeen s.meaning e.seen) (events_from s 0 c steps)
run_legal s c d steps h =
    run_related s (λ c seen d. AllByRecursion (λ (e : Event). IsLegalSeen s.meaning e.seen) seen) (λ c. tt) (one_legal s)
    (λ c d e xs ys first second. all_append (λ (e : Event). IsLegalSeen s.meaning e.seen) xs ys first second) 0 c d steps h

-- what holds of what some event does, holds of what each does
each_within : (m : Parameters) (Q : ℕ → Type 0) (seen : List Event) → ((x : ℕ) → list_any (on_address m x) seen ≡ true → Q x)
    → AllByRecursion (λ e. (x : ℕ) → on_address m x e ≡ true → Q x) seen
each_within m Q [] all = tt
each_within m Q (e ∷ es) all = (
  (λ x here. all x (ap (λ b. b || list_any (on_address m x) es) here)),
  each_within m Q es (λ x later. all x (ap (λ b. on_address m x e || b) later ∙ or-true (on_address m x e))),
)

three : {A : Type 0} (P Q R : A → Type 0) (xs : List A) → AllByRecursion P xs → AllByRecursion Q xs → AllByRecursion R xs → AllByRecursion (λ x. P x × Q x × R x) xs
three P Q R [] p q r = tt
three P Q R (x ∷ xs) p q r = ((p.0, q.0, r.0), three P Q R xs p.1 q.1 r.1)

any_moves : {A : Type 0} (P : A → Type 0) (f g : A → Bool) → ((x : A) → P x → f x ≡ true → g x ≡ true) → (xs : List A) → AllByRecursion P xs
    → list_any f xs ≡ true → list_any g xs ≡ true
any_moves P f g only [] all h = cc
any_moves P f g only (x ∷ xs) all h = elim (or_cases (f x) (list_any f xs) h) [
  | inl here ↦ ap (λ b. b || list_any g xs) (only x all.0 here)
  | inr later ↦ ap (λ b. g x || b) (any_moves P f g only xs all.1 later) ∙ or-true (g x)
]

-- an event erases from an address in a unit's block
abbrev starts_in : Parameters → Option Block → Instruction → Bool
starts_in m b i = is_erase i.what && block_holds_it m i.address b

abbrev hits : Parameters → Event → WorkUnit → Bool
hits m e u = option_map_or (starts_in m u.erase) e.seen false

by_erase : (m : Parameters) (a : ℕ) (us : List WorkUnit) (b : Bool) → holding m a us ≤ 1 → count_by (λ (u : WorkUnit). b && block_holds_it m a u.erase) us ≤ cond b 1 0
by_erase m a us true most = most
by_erase m a us false most = let none = count_false us in omega (arith, none)

seen_once : (m : Parameters) (us : List WorkUnit) (seen : Option Instruction) → ((a : ℕ) → holding m a us ≤ 1)
    → count_by (λ (u : WorkUnit). option_map_or (starts_in m u.erase) seen false) us ≤ cond (option_map_or (λ i. is_erase i.what) seen false) 1 0
seen_once m us None most = let none = count_false us in omega (arith, none)
seen_once m us (Some i) most = by_erase m i.address us (is_erase i.what) (most i.address)

few : (m : Parameters) (us : List WorkUnit) (seen : List Event) → ((a : ℕ) → holding m a us ≤ 1)
    → count_by (λ u. list_any (λ e. hits m e u) seen) us ≤ erases_seen seen
few m us [] most = let none = count_false us in omega (arith, none)
few m us (e ∷ es) most =
    let sum = sum_by-cons (λ (e : Event). cond (option_map_or (λ i. is_erase i.what) e.seen false) 1 0) e es in
    let both = count_or (hits m e) (λ u. list_any (λ e. hits m e u) es) us in
    let here = seen_once m us e.seen most in
    let rest = few m us es most in
    omega (arith, sum, both, here, rest)

at_least : {A : Type 0} (P : A → Type 0) (f g : A → Bool) → ((x : A) → P x → f x ≡ true → g x ≡ true) → (xs : List A) → AllByRecursion P xs → count_by f xs ≤ count_by g xs
at_least P f g only [] all = omega arith
at_least P f g only (x ∷ xs) all =
    let one = sum_by-cons (λ y. cond (f y) 1 0) x xs in
    let other = sum_by-cons (λ y. cond (g y) 1 0) x xs in
    let here = by (f x) (g x) (only x all.0) in
    let rest = at_least P f g only xs all.1 in
    omega (arith, one, other, here, rest)
  where
    by : (a b : Bool) → (a ≡ true → b ≡ true) → cond a 1 0 ≤ cond b 1 0
    by true true h = omega arith
    by true false h = let no = h refl in cc
    by false b h = omega arith

module _ (m : Parameters) (start : Start) (have want : List ℕ) (accepted : IsAccepted m) where
  abbrev due : ℕ → Bool
  due = is_due m have want

  abbrev IsFit : Event → Type 0
  IsFit e = IsReachedSeen m (strategy m start) e × IsLegalSeen m e.seen × ((x : ℕ) → on_address m x e ≡ true → is_needed m due x ≡ true)

  -- an erase of a block's first address starts in the block
  within_block : (b : Block) (i : Instruction) (kind : ℕ) → erased_at m (strategy m start) due b.start ≡ Some b → reaches (strategy m start) m kind i.address ≡ true
      → is_legal m kind i.address ≡ true → ((x : ℕ) → nat_le i.address x && nat_lt x (i.address + block_size m kind) ≡ true → is_needed m due x ≡ true)
      → nat_le i.address b.start && nat_lt b.start (i.address + block_size m kind) ≡ true → block_holds_it m i.address (Some b) ≡ true
  within_block b i kind here reached legal needed h =
      let c : Block = record { start = i.address; size = block_size m kind; kind = kind } in
      let found = legal_kind m kind i.address legal in
      let size : option_map (λ (erase : Erase). erase.size) (erase_kind m kind) ≡ Some (block_size m kind) =
      ap (option_map (λ (erase : Erase). erase.size)) found.there ∙ ap (λ n. Some n) (sym (size_of m kind found.erase found.there)) in
      let block : IsLegalBlock m c = record { size = size; legal = legal } in
      let parts = and_parts (nat_le i.address b.start) (nat_lt b.start (i.address + block_size m kind)) h in
      let from = leb-true i.address b.start parts.0 in
      let upto = ltb-true b.start (i.address + block_size m kind) parts.1 in
      let large = erases_largest m (strategy m start) due c accepted block reached
      (λ x holds. needed x (rw (le-leb i.address x holds.0, lt-ltb x (i.address + block_size m kind) holds.1) refl)) in
      let lies = large.2 in
      let same' : Some b ≡ Some large.0 = sym here ∙ erased_all m (strategy m start) due i.address b.start large.0 accepted large.1 (omega (arith, lies.0, from)) (omega (arith, lies.1, upto)) in
      let same : large.0 ≡ b = cc in
      let is = erased_for m (strategy m start) due i.address large.0 accepted large.1 in
      let low : b.start ≤ i.address = subst (λ (d : Block). d.start ≤ i.address) same is.low in
      let high : i.address < large.0.start + block_size m large.0.kind = omega (arith, is.high, is.can.size) in
      let high' : i.address < b.start + block_size m b.kind = subst (λ (d : Block). i.address < d.start + block_size m d.kind) same high in
      rw (le-leb b.start i.address low, lt-ltb i.address (b.start + block_size m b.kind) high') refl

  by_what : (b : Block) (i : Instruction) (w : What) → erased_at m (strategy m start) due b.start ≡ Some b
      → ((kind : ℕ) → w ≡ what.Erase kind → reaches (strategy m start) m kind i.address ≡ true) → ((kind : ℕ) → w ≡ what.Erase kind → is_legal m kind i.address ≡ true)
      → ((x : ℕ) → erases_address m x i w ≡ true → is_needed m due x ≡ true) → erases_address m b.start i w ≡ true
      → is_erase w && block_holds_it m i.address (Some b) ≡ true
  by_what b i (what.Erase kind) here reached legal needed h = within_block b i kind here (reached kind refl) (legal kind refl) needed h
  by_what b i other here reached legal needed h = cc

  by_seen : (b : Block) (seen : Option Instruction) → erased_at m (strategy m start) due b.start ≡ Some b
      → ((i : Instruction) (kind : ℕ) → seen ≡ Some i → i.what ≡ what.Erase kind → reaches (strategy m start) m kind i.address ≡ true) → IsLegalSeen m seen
      → ((x : ℕ) → option_map_or (λ i. erases_address m x i i.what) seen false ≡ true → is_needed m due x ≡ true)
      → option_map_or (λ i. erases_address m b.start i i.what) seen false ≡ true → option_map_or (starts_in m (Some b)) seen false ≡ true
  by_seen b None here reached legal needed h = cc
  by_seen b (Some i) here reached legal needed h =
      by_what b i i.what here (λ kind is. reached i kind refl is) (λ kind is. legal i kind refl is) needed h

  -- the units with a block have one in the run
  hit_if : (seen : List Event) (e : Option Block) → AllByRecursion IsFit seen
      → ((b : Block) → e ≡ Some b → erased_at m (strategy m start) due b.start ≡ Some b) → ((b : Block) → e ≡ Some b → list_any (on_address m b.start) seen ≡ true)
      → is_some e ≡ true → list_any (λ (v : Event). option_map_or (starts_in m e) v.seen false) seen ≡ true
  hit_if seen None fit here erased some = cc
  hit_if seen (Some b) fit here erased some =
      any_moves IsFit (on_address m b.start) (λ (v : Event). option_map_or (starts_in m (Some b)) v.seen false)
      (λ v f h. by_seen b v.seen (here b refl) f.0 f.1 f.2 h) seen fit (erased b refl)

module _ (s : Setting) (have want : List ℕ) (steps : List Step) (w : IsWorkable s.meaning s.start have want) (chip : IsChipOf s.meaning s.start s) (task : DoesTask s have want steps) where
  fewest_on : ((a : ℕ) → is_erased_by s (events s (ready s have) steps) a ≡ true → is_needed s.meaning (is_due s.meaning have want) a ≡ true)
      → AllByRecursion (IsReachedSeen s.meaning (strategy s.meaning s.start)) (events s (ready s have) steps)
      → count_by (λ u. is_some u.erase) (planned_units s.meaning s.start have want) ≤ erases_seen (events s (ready s have) steps)
  unfolding units
  fewest_on only reached =
      let m = s.meaning in
      let by = strategy s.meaning s.start in
      let due = is_due s.meaning have want in
      let seen = events s (ready s have) steps in
      let us = planned_units s.meaning s.start have want in
      let level = levelled m by due have in
      let fit : AllByRecursion (IsFit m s.start have want w.accepted) seen =
      three (IsReachedSeen m by) (λ (e : Event). IsLegalSeen m e.seen) (λ (e : Event). (x : ℕ) → on_address m x e ≡ true → is_needed m due x ≡ true) seen reached
      (run_legal s (ready s have) task.final steps task.good.runs) (each_within m (λ x. is_needed m due x ≡ true) seen only) in
      let from = units_from m level want (erased_at m by due) (pages m.page 0 (m.size / m.page)) in
      let most = few m us seen (λ a. (at_most_one m m.page level have want a us 0 (units_sound m s.start m.page have want w (own_page m))).most) in
      let least = at_least (IsFrom level want (erased_at m by due)) (λ (u : WorkUnit). is_some u.erase) (λ u. list_any (λ e. hits m e u) seen)
      (λ u f some. hit_if m s.start have want w.accepted seen u.erase fit
      (λ b is. let at = f.block b is in let e = erased_for m by due at.0 b w.accepted at.1 in e.all b.start (omega arith) (omega (arith, e.low, e.high)))
      (λ b is.
      let at = f.block b is in
      let e = erased_for m by due at.0 b w.accepted at.1 in
      no_script_erases_less m s.start s have want steps b.start w.accepted chip task
      (erased_needed m by due b.start b w.accepted (e.all b.start (omega arith) (omega (arith, e.low, e.high))))) some) us from in
      omega (arith, most, least)

-- what is so of a chip's own meaning and start
abbrev Claim : Setting → List ℕ → List ℕ → List Step → Parameters → Start → Type 0
Claim s have want steps m start =
    IsWorkable m start have want → IsChipOf m start s
    → ((a : ℕ) → is_erased_by s (events s (ready s have) steps) a ≡ true → is_needed m (is_due m have want) a ≡ true)
    → AllByRecursion (IsReachedSeen m (strategy m start)) (events s (ready s have) steps)
    → count_by (λ u. is_some u.erase) (planned_units m start have want) ≤ erases_seen (events s (ready s have) steps)

pub no_script_has_fewer_erases : NoScriptHasFewerErases
no_script_has_fewer_erases m start s have want steps w is task only reached =
    let own : Claim s have want steps s.meaning s.start = λ w is only reached. fewest_on s have want steps w is task only reached in
    let moved : Claim s have want steps m start =
    subst (λ (b : Start). Claim s have want steps m b) is.its_start (subst (λ (a : Parameters). Claim s have want steps a s.start) is.its_meaning own) in
    moved w is only reached
