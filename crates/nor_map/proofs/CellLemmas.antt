-- Cells that hold some of the bytes of a run.
use Rattle.std.proofs.Common.{◌≡◌, ℕ, zero, suc, ◌+◌, ◌*◌, ◌/◌, ◌<◌, ◌≤◌, nat_le, nat_lt, min, Bool, true, false, ◌&&◌, ◌||◌, List, [], ◌∷◌, length, take, get_or, Some, None, refl, sym, ◌∙◌, ap, subst, arith, inl, inr, le-leb, lt-ltb, le-ltb, le-div_iff_mul-le, div-lt_iff_lt-mul}
use Rattle.std.specs.List.{list_any, range_with_len}
use Rattle.std.proofs.Math.Bool.{and-false, or-false, or_assoc}
use Rattle.std.proofs.Math.Nat.{suc-mul}
use Rattle.std.proofs.lemmas.Bool.{cases_lt, lt-leb}
use Rattle.std.specs.Option.{option_map_or}
use Rattle.std.proofs.lemmas.List.Folds.{list_any_more}
use Rattle.nor_base.proofs.StretchLaws.{any_at, none_over}
use Rattle.nor_outline.specs.declared.line.PlanLine.{PlanLine}
use Rattle.nor_map.specs.declared.cells.Work.{Work}
use Rattle.nor_map.specs.Cells.{lies_in, run_of, works, is_worked, some_byte, doubled}
use Rattle.nor_map.specs.Marks.{touches, MarkedBy}

-- one test or another, over a list
or_swap : (a b c d : Bool) → (a || b) || (c || d) ≡ (a || c) || (b || d)
or_swap true b c d = refl
or_swap false true true d = refl
or_swap false true false d = refl
or_swap false false c d = refl

pub any_or : (p q r : ℕ → Bool) (xs : List ℕ) → ((x : ℕ) → p x ≡ (q x || r x)) → list_any p xs ≡ (list_any q xs || list_any r xs)
any_or p q r [] each = refl
any_or p q r (x ∷ xs) each = rw (each x, any_or p q r xs each) (or_swap (q x) (r x) (list_any q xs) (list_any r xs))

pub next_cell : (c cell : ℕ) → (c + 1) * cell ≡ c * cell + cell
next_cell c cell = let one : c + 1 ≡ suc c = omega arith in ap (λ n. n * cell) one ∙ suc-mul c cell

-- the addresses of a run that lie in a cell
both_sides : (cell : ℕ) (run : ℕ × ℕ) (c : ℕ) → 0 < cell → run.0 ≤ run.1 → run.0 / cell ≤ c → c ≤ run.1 / cell → some_byte cell (lies_in run) c ≡ true
both_sides cell run c some order low high =
    let below : run.0 < (c + 1) * cell = (div-lt_iff_lt-mul {k = cell} {x = run.0} {y = c + 1} some).0 (omega (arith, low)) in
    let sum : (c + 1) * cell ≡ c * cell + cell = next_cell c cell in
    let upto : c * cell ≤ run.1 = (le-div_iff_mul-le {k = cell} {x = c} {y = run.1} some).0 high in
    elim (cases_lt (c * cell) run.0) [
      | inl past ↦ any_at (lies_in run) cell (c * cell) run.0 (omega (arith, past)) (omega (arith, below, sum)) (rw (le-leb run.0 run.0 (omega arith)) (le-leb run.0 run.1 order))
      | inr before ↦ any_at (lies_in run) cell (c * cell) (c * cell) (omega arith) (omega (arith, some)) (rw (le-leb run.0 (c * cell) before) (le-leb (c * cell) run.1 upto))
    ]

starts_later : (cell : ℕ) (run : ℕ × ℕ) (c : ℕ) → 0 < cell → c < run.0 / cell → some_byte cell (lies_in run) c ≡ false
starts_later cell run c some low =
    let past : (c + 1) * cell ≤ run.0 = (le-div_iff_mul-le {k = cell} {x = c + 1} {y = run.0} some).0 (omega (arith, low)) in
    let sum : (c + 1) * cell ≡ c * cell + cell = next_cell c cell in
    none_over (lies_in run) cell (c * cell) (λ a from upto. rw (lt-leb run.0 a (omega (arith, past, sum, upto))) refl)

ends_before : (cell : ℕ) (run : ℕ × ℕ) (c : ℕ) → 0 < cell → run.1 / cell < c → some_byte cell (lies_in run) c ≡ false
ends_before cell run c some high =
    let past : run.1 < c * cell = (div-lt_iff_lt-mul {k = cell} {x = run.1} {y = c} some).0 high in
    none_over (lies_in run) cell (c * cell) (λ a from upto. rw (lt-leb a run.1 (omega (arith, past, from))) (and-false (nat_le run.0 a)))

pub touched : (cell : ℕ) (run : ℕ × ℕ) (c : ℕ) → 0 < cell → run.0 ≤ run.1 → some_byte cell (lies_in run) c ≡ touches cell run c
touched cell run c some order = elim (cases_lt c (run.0 / cell)) [
  | inl low ↦ starts_later cell run c some low ∙ sym (rw (lt-leb (run.0 / cell) c low) refl)
  | inr low ↦ elim (cases_lt (run.1 / cell) c) [
    | inl high ↦ ends_before cell run c some high ∙ sym (rw (lt-leb c (run.1 / cell) high) (and-false (nat_le (run.0 / cell) c)))
    | inr high ↦ both_sides cell run c some order low high ∙ sym (rw (le-leb (run.0 / cell) c low) (le-leb c (run.1 / cell) high))
  ]
]

-- one line more
pub one_line : (work : Work) (lines : List PlanLine) (i : ℕ) (d : PlanLine) (cell c : ℕ) → i < length lines
    → some_byte cell (is_worked work (take (i + 1) lines)) c ≡ (some_byte cell (is_worked work (take i lines)) c || some_byte cell (works work (get_or lines i d)) c)
one_line work lines i d cell c inside =
    any_or (is_worked work (take (i + 1) lines)) (is_worked work (take i lines)) (works work (get_or lines i d)) (range_with_len (c * cell) cell)
    (λ a. list_any_more (λ l. works work l a) lines i d inside)

-- no line, and none that works on no byte
pub no_byte : (cell : ℕ) (test : ℕ → Bool) (old : Bool) (c : ℕ) → ((a : ℕ) → test a ≡ false) → old ≡ (old || some_byte cell test c)
no_byte cell test old c none = sym (ap (λ b. old || b) (none_over test cell (c * cell) (λ a from upto. none a)) ∙ or-false old)

-- a size that is doubled
pub doubled_found : (more cell size : ℕ) → size ≤ 65536 * cell → doubled more cell size ≡ cell
unfolding doubled
doubled_found zero cell size fits = refl
doubled_found (suc more) cell size fits = rw (le-leb size (65536 * cell) fits) refl

doubled_on : (more cell size : ℕ) → 65536 * cell < size → doubled (suc more) cell size ≡ doubled more (2 * cell) size
unfolding doubled
doubled_on more cell size fails = rw (lt-leb size (65536 * cell) fails) refl

pub doubled_more : (n more cell size : ℕ) → n ≡ suc more → 65536 * cell < size → doubled n cell size ≡ doubled more (2 * cell) size
doubled_more n more cell size is fails = ap (λ k. doubled k cell size) is ∙ doubled_on more cell size fails

-- where a walk over cells ends
pub walked : (begin q n x c : ℕ) → c < n → begin ≤ x → min (q + 1) n ≤ x → (min (q + 1) n < x → x ≡ begin) → (nat_le begin c && nat_lt c x) ≡ (nat_le begin c && nat_le c q)
walked begin q n x c inside from upto past = elim (cases_lt c begin) [
  | inl before ↦ rw (lt-leb begin c before) refl
  | inr after ↦ elim (cases_lt q c) [
    | inl far ↦ rw (lt-leb c q far) (elim (cases_lt c x) [
      | inl short ↦ absurd (let at = past (omega (arith, short, far)) in omega (arith, at, after, short))
      | inr far' ↦ rw (le-ltb c x far') refl
    ])
    | inr near ↦ rw (le-leb c q near) (ap (λ b. nat_le begin c && b) (lt-ltb c x (omega (arith, near, inside, upto))))
  ]
]

pub marked_to : (old : Bool) (a b : Bool) → a ≡ b → (old || a) ≡ (old || b)
marked_to old a b is = ap (λ x. old || x) is

-- what is marked by one line, after those before it
pub marked_more : (cell : ℕ) (p q r : ℕ → Bool) (old now new : List Bool) → MarkedBy cell p old now → MarkedBy cell q now new
    → ((c : ℕ) → some_byte cell r c ≡ (some_byte cell p c || some_byte cell q c)) → MarkedBy cell r old new
marked_more cell p q r old now new before line both = record {
  same_length = line.same_length ∙ before.same_length;
  each = λ c inside.
      line.each c (omega (arith, inside, before.same_length))
      ∙ ap (λ b. b || some_byte cell q c) (before.each c inside)
      ∙ or_assoc (get_or old c false) (some_byte cell p c) (some_byte cell q c)
      ∙ ap (λ b. get_or old c false || b) (sym (both c));
}

-- what one line marks
pub line_some : (cell : ℕ) (work : Work) (line : PlanLine) (run : ℕ × ℕ) (old new : List Bool) → Some run ≡ run_of work line → MarkedBy cell (lies_in run) old new
    → MarkedBy cell (works work line) old new
line_some cell work line run old new is marked = subst (λ r. MarkedBy cell (λ a. option_map_or (λ run. lies_in run a) r false) old new) is marked

pub line_none : (cell : ℕ) (work : Work) (line : PlanLine) (old : List Bool) → None ≡ run_of work line → MarkedBy cell (works work line) old old
line_none cell work line old is =
    subst (λ r. MarkedBy cell (λ a. option_map_or (λ run. lies_in run a) r false) old old) is
    (record { same_length = refl; each = λ c inside. no_byte cell (λ a. false) (get_or old c false) c (λ a. refl) })
