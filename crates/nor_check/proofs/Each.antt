-- One step of the chips of each page, one after another.
use Rattle.std.proofs.Common.{◌≡◌, ℕ, zero, suc, ◌+◌, ◌<◌, ◌≤◌, if◌then◌else◌, List, [], ◌∷◌, ◌++◌, length, get_or, take, drop, Result, Ok, Err, refl, sym, ◌∙◌, ap, arith, inl, inr, append_assoc, append-nil}
use Rattle.std.specs.Prelude.{slice_set}
use Rattle.std.proofs.lemmas.Bool.{cases_lt, lt-ltb, le-ltb}
use Rattle.std.proofs.lemmas.List.{drop_more, take_more_set, drop-set-lt}
use Rattle.nor_base.specs.declared.step.Step.{Step}
use Rattle.nor_base.specs.declared.wrong.Wrong.{Wrong}
use Rattle.nor_check.specs.Order.{rank_of}
use Rattle.nor_check.specs.Chips.{Kind, Together}
use Rattle.nor_check.specs.Judged.{StepsAll, all_step}
use Rattle.nor_check.specs.Pages.{each_step, first_cause, first_of, joined}

-- the answer to a step of the first of them, and the first as they are then, before the others
abbrev pub in_front : Result (Unit {0}) Wrong → List Together → Result (List Together) Wrong → Result (List Together) Wrong
in_front (Ok u) before (Ok rest) = Ok (before ++ rest)
in_front (Err a) before (Ok rest) = Err a
in_front (Ok u) before (Err b) = Err b
in_front (Err a) before (Err b) = Err (first_cause a b)

cause_assoc : (a b c : Wrong) → first_cause a (first_cause b c) ≡ first_cause (first_cause a b) c
cause_assoc a b c = elim (cases_lt (rank_of b) (rank_of a)) [
  | inl ba ↦ elim (cases_lt (rank_of c) (rank_of b)) [
    | inl cb ↦
        ap (λ t. first_cause a (if t then c else b)) (lt-ltb (rank_of c) (rank_of b) cb) ∙ ap (λ t. if t then c else a) (lt-ltb (rank_of c) (rank_of a) (omega arith))
        ∙ sym (ap (λ t. first_cause (if t then b else a) c) (lt-ltb (rank_of b) (rank_of a) ba) ∙ ap (λ t. if t then c else b) (lt-ltb (rank_of c) (rank_of b) cb))
    | inr bc ↦
        ap (λ t. first_cause a (if t then c else b)) (le-ltb (rank_of c) (rank_of b) bc) ∙ ap (λ t. if t then b else a) (lt-ltb (rank_of b) (rank_of a) ba)
        ∙ sym (ap (λ t. first_cause (if t then b else a) c) (lt-ltb (rank_of b) (rank_of a) ba) ∙ ap (λ t. if t then c else b) (le-ltb (rank_of c) (rank_of b) bc))
  ]
  | inr ab ↦ elim (cases_lt (rank_of c) (rank_of b)) [
    | inl cb ↦
        ap (λ t. first_cause a (if t then c else b)) (lt-ltb (rank_of c) (rank_of b) cb)
        ∙ sym (ap (λ t. first_cause (if t then b else a) c) (le-ltb (rank_of b) (rank_of a) ab))
    | inr bc ↦
        ap (λ t. first_cause a (if t then c else b)) (le-ltb (rank_of c) (rank_of b) bc) ∙ ap (λ t. if t then b else a) (le-ltb (rank_of b) (rank_of a) ab)
        ∙ sym (ap (λ t. first_cause (if t then b else a) c) (le-ltb (rank_of b) (rank_of a) ab) ∙ ap (λ t. if t then c else a) (le-ltb (rank_of c) (rank_of a) (omega arith)))
  ]
]

-- the first of all
first_by : (t after : Together) (x : Step) (r : Result (Unit {0}) Wrong) (s : Result (List Together) Wrong) → StepsAll t after r x
    → joined t.kind (all_step t.kind t.chips x) s ≡ in_front r (after ∷ []) s
first_by t after x (Ok u) (Ok rest) h =
    ap (λ r. joined t.kind r (Ok rest)) h.0 ∙ ap (λ (k : Kind). Ok ((record { kind = k; chips = after.chips }) ∷ rest)) (sym h.1)
first_by t after x (Ok u) (Err b) h = ap (λ r. joined t.kind r (Err b)) h.0
first_by t after x (Err a) (Ok rest) h = ap (λ r. joined t.kind r (Ok rest)) h.0
first_by t after x (Err a) (Err b) h = ap (λ r. joined t.kind r (Err b)) h.0

pub first_moved : (t after : Together) (rest : List Together) (x : Step) (r : Result (Unit {0}) Wrong) → StepsAll t after r x
    → each_step (t ∷ rest) x ≡ in_front r (after ∷ []) (each_step rest x)
first_moved t after rest x r h = first_by t after x r (each_step rest x) h

-- one more
next_by : (before : List Together) (t after : Together) (x : Step) (a r : Result (Unit {0}) Wrong) (s : Result (List Together) Wrong) → StepsAll t after r x
    → in_front a before (joined t.kind (all_step t.kind t.chips x) s) ≡ in_front (first_of a r) (before ++ after ∷ []) s
next_by before t after x a (Ok u) s h =
    ap (λ r. in_front a before (joined t.kind r s)) h.0
    ∙ ap (λ (k : Kind). in_front a before (joined k (Ok after.chips) s)) (sym h.1) ∙ by a s
  where
    by : (a : Result (Unit {0}) Wrong) (s : Result (List Together) Wrong) → in_front a before (joined after.kind (Ok after.chips) s) ≡ in_front (first_of a (Ok u)) (before ++ after ∷ []) s
    by (Ok v) (Ok rest) = ap (λ l. Ok l) (sym (append_assoc before (after ∷ []) rest))
    by (Ok v) (Err b) = refl
    by (Err c) (Ok rest) = refl
    by (Err c) (Err b) = refl
next_by before t after x a (Err cause) s h = ap (λ r. in_front a before (joined t.kind r s)) h.0 ∙ by a s
  where
    by : (a : Result (Unit {0}) Wrong) (s : Result (List Together) Wrong) → in_front a before (joined t.kind (Err cause) s) ≡ in_front (first_of a (Err cause)) (before ++ after ∷ []) s
    by (Ok v) (Ok rest) = refl
    by (Ok v) (Err b) = refl
    by (Err c) (Ok rest) = refl
    by (Err c) (Err b) = ap (λ e. Err e) (cause_assoc c cause b)

pub next_moved : (own : Together) (items : List Together) (i : ℕ) (d after : Together) (x : Step) (a r next : Result (Unit {0}) Wrong) → i < length items
    → StepsAll (get_or items i d) after r x → next ≡ first_of a r
    → in_front a (own ∷ take i items) (each_step (drop i items) x)
    ≡ in_front next (own ∷ take (i + 1) (slice_set items i after)) (each_step (drop (i + 1) (slice_set items i after)) x)
next_moved own items i d after x a r next within h told =
    ap (λ l. in_front a (own ∷ take i items) (each_step l x)) (drop_more items i d within)
    ∙ next_by (own ∷ take i items) (get_or items i d) after x a r (each_step (drop (i + 1) items) x) h
    ∙ ap (λ n. in_front n (own ∷ (take i items ++ after ∷ [])) (each_step (drop (i + 1) items) x)) (sym told)
    ∙ ap (λ l. in_front next (own ∷ l) (each_step (drop (i + 1) items) x)) (sym (take_more_set items i after within))
    ∙ ap (λ l. in_front next (own ∷ take (i + 1) (slice_set items i after)) (each_step l x)) (sym (drop-set-lt (i + 1) items i after (omega arith)))

take_whole : (items : List Together) (i : ℕ) → length items ≤ i → take i items ≡ items
take_whole [] zero all = refl
take_whole [] (suc i) all = refl
take_whole (t ∷ ts) zero all = absurd (omega arith)
take_whole (t ∷ ts) (suc i) all = ap (λ l. t ∷ l) (take_whole ts i (omega arith))

take_all : (items : List Together) (i : ℕ) → length items ≤ i → take i items ++ [] ≡ items
take_all items i all = append-nil (take i items) ∙ take_whole items i all
