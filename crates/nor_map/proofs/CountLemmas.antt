-- Bytes that are counted, each in its cell.
use Rattle.std.proofs.Common.{◌≡◌, ℕ, zero, suc, ◌+◌, ◌*◌, ◌/◌, ◌<◌, ◌≤◌, nat_le, nat_lt, min, Bool, true, false, ◌&&◌, ◌==◌, List, [], ◌∷◌, length, get_or, set, take, Some, None, refl, sym, ◌∙◌, ap, subst, arith, cond, inl, inr, le-leb, lt-ltb, le-ltb, le-div_iff_mul-le, div-lt_iff_lt-mul}
use Rattle.std.specs.Prelude.{count_by}
use Rattle.std.specs.List.{range_with_len}
use Rattle.std.specs.Option.{option_map_or}
use Rattle.std.proofs.Math.Bool.{and-false, and-true}
use Rattle.std.proofs.lemmas.Bool.{cases_eq, cases_lt, eq-eqb, lt-leb, ne_eqb, true≢false}
use Rattle.std.proofs.lemmas.Grind.{get_or-set_at}
use Rattle.std.proofs.lemmas.List.{get_or-set_other, length-set}
use Rattle.std.proofs.lemmas.List.Sums.{sum_by-cons, fold_more}
use Rattle.nor_outline.specs.declared.line.PlanLine.{PlanLine}
use Rattle.nor_map.specs.declared.cells.Work.TheVariants as work
use Rattle.nor_map.specs.Cells.{Wanted, bytes_so, is_new, lies_in, new_bytes, run_of, works}
use Rattle.nor_map.specs.Marks.{CountedBy}
use Rattle.nor_map.proofs.CellLemmas.{next_cell}

abbrev one : Bool → ℕ
one b = cond b 1 0

-- what one test passes, or the other
count_sum : (p q r : ℕ → Bool) (xs : List ℕ) → ((x : ℕ) → one (p x) ≡ one (q x) + one (r x)) → count_by p xs ≡ count_by q xs + count_by r xs
count_sum p q r [] each = refl
count_sum p q r (x ∷ xs) each =
    omega (arith, sum_by-cons (λ y. cond (p y) 1 0) x xs, sum_by-cons (λ y. cond (q y) 1 0) x xs, sum_by-cons (λ y. cond (r y) 1 0) x xs, each x, count_sum p q r xs each)

count_none : (p : ℕ → Bool) (n start : ℕ) → ((x : ℕ) → start ≤ x → x < start + n → p x ≡ false) → count_by p (range_with_len start n) ≡ 0
count_none p zero start none = refl
count_none p (suc n) start none =
    let here : one (p start) ≡ 0 = ap (λ b. one b) (none start (omega arith) (omega arith)) in
    let later : count_by p (range_with_len (start + 1) n) ≡ 0 = count_none p n (start + 1) (λ x from upto. none x (omega arith) (omega arith)) in
    sum_by-cons (λ y. cond (p y) 1 0) start (range_with_len (start + 1) n) ∙ omega (arith, here, later)

-- one address among them
count_one : (a n start : ℕ) → start ≤ a → a < start + n → count_by (λ x. x == a) (range_with_len start n) ≡ 1
count_one a zero start from upto = absurd (omega arith)
count_one a (suc n) start from upto = elim (cases_lt start a) [
  | inl past ↦
      let here : one (start == a) ≡ 0 = ap (λ b. one b) (ne_eqb start a (λ at. omega (arith, at, past))) in
      sum_by-cons (λ y. cond (y == a) 1 0) start (range_with_len (start + 1) n) ∙ omega (arith, here, count_one a n (start + 1) (omega arith) (omega arith))
  | inr at ↦
      let here : one (start == a) ≡ 1 = ap (λ b. one b) (eq-eqb start a (omega arith)) in
      let later : count_by (λ x. x == a) (range_with_len (start + 1) n) ≡ 0 =
      count_none (λ x. x == a) n (start + 1) (λ x past below. ne_eqb x a (λ is. omega (arith, is, past, at))) in
      sum_by-cons (λ y. cond (y == a) 1 0) start (range_with_len (start + 1) n) ∙ omega (arith, here, later)
]

in_cell : (cell a : ℕ) → 0 < cell → bytes_so cell (λ x. x == a) (a / cell) ≡ 1
in_cell cell a some =
    let from : a / cell * cell ≤ a = (le-div_iff_mul-le {k = cell} {x = a / cell} {y = a} some).0 (omega arith) in
    let below : a < (a / cell + 1) * cell = (div-lt_iff_lt-mul {k = cell} {x = a} {y = a / cell + 1} some).0 (omega arith) in
    count_one a cell (a / cell * cell) from (omega (arith, below, next_cell (a / cell) cell))

in_other : (cell a c : ℕ) → 0 < cell → (c ≡ a / cell → ⊥) → bytes_so cell (λ x. x == a) c ≡ 0
in_other cell a c some other = elim (cases_lt c (a / cell)) [
  | inl before ↦
      let past : (c + 1) * cell ≤ a = (le-div_iff_mul-le {k = cell} {x = c + 1} {y = a} some).0 (omega (arith, before)) in
      count_none (λ x. x == a) cell (c * cell) (λ x from upto. ne_eqb x a (λ is. omega (arith, is, past, next_cell c cell, upto)))
  | inr after ↦ elim (cases_lt (a / cell) c) [
    | inl past ↦
        let below : a < c * cell = (div-lt_iff_lt-mul {k = cell} {x = a} {y = c} some).0 past in
        count_none (λ x. x == a) cell (c * cell) (λ x from upto. ne_eqb x a (λ is. omega (arith, is, below, from)))
    | inr at ↦ absurd (other (omega (arith, after, at)))
  ]
]

-- the byte at an address, in its cell or past the last one
pub byte_counted : (cell a n bytes : ℕ) (old : List ℕ) → 0 < cell → bytes ≡ cell → a / bytes < length old → n ≡ min cell (get_or old (a / bytes) 0 + 1)
    → CountedBy cell (bytes_so cell (λ x. x == a)) old (set old (a / bytes) n)
byte_counted cell a n bytes old some same inside is = record {
  same_length = length-set old (a / bytes) n;
  each = λ c within few. elim (cases_eq c (a / bytes)) [
    | inl at ↦
        let one : bytes_so cell (λ x. x == a) c ≡ 1 = ap (bytes_so cell (λ x. x == a)) (at ∙ ap (λ k. a / k) same) ∙ in_cell cell a some in
        let now : get_or (set old (a / bytes) n) c 0 ≡ n = get_or-set_at old (a / bytes) c n 0 at inside in
        let here : get_or old (a / bytes) 0 ≡ get_or old c 0 = ap (λ k. get_or old k 0) (sym at) in
        omega (arith, one, now, here, is)
    | inr other ↦
        let none : bytes_so cell (λ x. x == a) c ≡ 0 = in_other cell a c some (λ at. other (at ∙ ap (λ k. a / k) (sym same))) in
        get_or-set_other old (a / bytes) c n 0 other ∙ omega (arith, few, none)
  ];
}

pub byte_outside : (cell a bytes : ℕ) (old : List ℕ) → 0 < cell → bytes ≡ cell → length old ≤ a / bytes → CountedBy cell (bytes_so cell (λ x. x == a)) old old
byte_outside cell a bytes old some same outside = record {
  same_length = refl;
  each = λ c within few.
      let none : bytes_so cell (λ x. x == a) c ≡ 0 =
      in_other cell a c some (λ at. let here : c ≡ a / bytes = at ∙ ap (λ k. a / k) (sym same) in omega (arith, here, within, outside)) in
      omega (arith, few, none);
}

-- no bytes, and more after others
pub none_counted : (cell : ℕ) (bytes : ℕ → ℕ) (old : List ℕ) → ((c : ℕ) → bytes c ≡ 0) → CountedBy cell bytes old old
none_counted cell bytes old none = record { same_length = refl; each = λ c within few. omega (arith, few, none c) }

pub more_counted : (cell : ℕ) (f g h : ℕ → ℕ) (old now new : List ℕ) → CountedBy cell f old now → CountedBy cell g now new → ((c : ℕ) → h c ≡ f c + g c) → CountedBy cell h old new
more_counted cell f g h old now new first second both = record {
  same_length = second.same_length ∙ first.same_length;
  each = λ c within few.
      let here = first.each c within few in
      let there = second.each c (omega (arith, within, first.same_length)) (omega (arith, here)) in
      omega (arith, here, there, both c);
}

-- new bytes so far, and one address more
abbrev before : Wanted → ℕ → ℕ → ℕ → Bool
before w first a x = (nat_le first x && nat_lt x a) && is_new w x

pub no_bytes : (w : Wanted) (first cell c : ℕ) → bytes_so cell (λ x. (nat_le first x && nat_lt x first) && is_new w x) c ≡ 0
no_bytes w first cell c = count_none (before w first first) cell (c * cell) (λ x from upto. elim (cases_lt x first) [
  | inl below ↦ ap (λ b. (b && nat_lt x first) && is_new w x) (lt-leb first x below)
  | inr past ↦ ap (λ b. (nat_le first x && b) && is_new w x) (le-ltb x first past) ∙ ap (λ b. b && is_new w x) (and-false (nat_le first x))
])

same_bytes : (f l l' e n m : Bool) → l' ≡ l → e ≡ false → one ((f && l') && n) ≡ one ((f && l) && n) + one (e && m)
same_bytes f l l' e n m same none =
    let plus : one ((f && l) && n) ≡ one ((f && l) && n) + one (false && m) = omega arith in
    ap (λ b. one ((f && b) && n)) same ∙ plus ∙ ap (λ b. one ((f && l) && n) + one (b && m)) (sym none)

one_more : (f l l' e n : Bool) → f ≡ true → l ≡ false → l' ≡ true → e ≡ true → one ((f && l') && n) ≡ one ((f && l) && n) + one (e && n)
one_more true false true true n from past upto here = omega arith
one_more false l l' e n from past upto here = absurd (true≢false (sym from))
one_more true true l' e n from past upto here = absurd (true≢false past)
one_more true false false e n from past upto here = absurd (true≢false (sym upto))
one_more true false true false n from past upto here = absurd (true≢false (sym here))

next_byte : (w : Wanted) (first a x : ℕ) → first ≤ a → one (before w first (a + 1) x) ≡ one (before w first a x) + one ((x == a) && is_new w a)
next_byte w first a x from = elim (cases_lt x a) [
  | inl below ↦ same_bytes (nat_le first x) (nat_lt x a) (nat_lt x (a + 1)) (x == a) (is_new w x) (is_new w a)
      (lt-ltb x (a + 1) (omega (arith, below)) ∙ sym (lt-ltb x a below)) (ne_eqb x a (λ is. omega (arith, is, below)))
  | inr past ↦ elim (cases_lt a x) [
    | inl after ↦ same_bytes (nat_le first x) (nat_lt x a) (nat_lt x (a + 1)) (x == a) (is_new w x) (is_new w a)
        (le-ltb x (a + 1) (omega (arith, after)) ∙ sym (le-ltb x a past)) (ne_eqb x a (λ is. omega (arith, is, after)))
    | inr upto ↦
        let is : x ≡ a = omega (arith, past, upto) in
        subst (λ y. one (before w first (a + 1) y) ≡ one (before w first a y) + one ((y == a) && is_new w a)) (sym is)
        (one_more (nat_le first a) (nat_lt a a) (nat_lt a (a + 1)) (a == a) (is_new w a) (le-leb first a from) (le-ltb a a (omega arith)) (lt-ltb a (a + 1) (omega arith)) (eq-eqb a a refl))
  ]
]

pub new_byte : (w : Wanted) (first a cell c : ℕ) → first ≤ a → is_new w a ≡ true
    → bytes_so cell (λ x. (nat_le first x && nat_lt x (a + 1)) && is_new w x) c
    ≡ bytes_so cell (λ x. (nat_le first x && nat_lt x a) && is_new w x) c + bytes_so cell (λ x. x == a) c
new_byte w first a cell c from is = count_sum (before w first (a + 1)) (before w first a) (λ x. x == a) (range_with_len (c * cell) cell) (λ x.
    next_byte w first a x from ∙ ap (λ b. one (before w first a x) + one ((x == a) && b)) is
    ∙ ap (λ b. one (before w first a x) + one b) (and-true (x == a)))

pub other_byte : (w : Wanted) (first a cell c : ℕ) → first ≤ a → is_new w a ≡ false
    → bytes_so cell (λ x. (nat_le first x && nat_lt x (a + 1)) && is_new w x) c
    ≡ bytes_so cell (λ x. (nat_le first x && nat_lt x a) && is_new w x) c
other_byte w first a cell c from is =
    let none : count_by (λ x. false) (range_with_len (c * cell) cell) ≡ 0 = count_none (λ x. false) cell (c * cell) (λ x from upto. refl) in
    let sum = count_sum (before w first (a + 1)) (before w first a) (λ x. false) (range_with_len (c * cell) cell) (λ x.
    next_byte w first a x from ∙ ap (λ b. one (before w first a x) + one ((x == a) && b)) is
    ∙ ap (λ b. one (before w first a x) + one b) (and-false (x == a))) in
    omega (arith, sum, none)

-- all bytes of a run
pub all_bytes : (w : Wanted) (first last a cell c : ℕ) → a ≡ last + 1
    → bytes_so cell (λ x. lies_in (first, last) x && is_new w x) c ≡ bytes_so cell (λ x. (nat_le first x && nat_lt x a) && is_new w x) c
all_bytes w first last a cell c is =
    let same : (x : ℕ) → nat_le x last ≡ nat_lt x a = λ x. elim (cases_lt last x) [
      | inl past ↦ lt-leb x last past ∙ sym (le-ltb x a (omega (arith, is, past)))
      | inr upto ↦ le-leb x last upto ∙ sym (lt-ltb x a (omega (arith, is, upto)))
    ] in
    let pointwise : (λ x. nat_le x last) ≡ (λ x. nat_lt x a) = λ i x. same x i in
    ap (λ (t : ℕ → Bool). bytes_so cell (λ x. (nat_le first x && t x) && is_new w x) c) pointwise

pub same_counted : (cell : ℕ) (f g : ℕ → ℕ) (old new : List ℕ) → CountedBy cell f old new → ((c : ℕ) → g c ≡ f c) → CountedBy cell g old new
same_counted cell f g old new by same = record {
  same_length = by.same_length;
  each = λ c within few. by.each c within few ∙ ap (λ n. min cell (get_or old c 0 + n)) (sym (same c));
}

-- a line, and more lines
pub line_some : (cell : ℕ) (w : Wanted) (line : PlanLine) (run : ℕ × ℕ) (old new : List ℕ) → Some run ≡ run_of work.Programmed line
    → CountedBy cell (bytes_so cell (λ a. lies_in run a && is_new w a)) old new → CountedBy cell (bytes_so cell (λ a. works work.Programmed line a && is_new w a)) old new
line_some cell w line run old new is by =
    subst (λ r. CountedBy cell (bytes_so cell (λ a. option_map_or (λ run. lies_in run a) r false && is_new w a)) old new) is by

pub line_none : (cell : ℕ) (w : Wanted) (line : PlanLine) (old : List ℕ) → None ≡ run_of work.Programmed line
    → CountedBy cell (bytes_so cell (λ a. works work.Programmed line a && is_new w a)) old old
line_none cell w line old is =
    subst (λ r. CountedBy cell (bytes_so cell (λ a. option_map_or (λ run. lies_in run a) r false && is_new w a)) old old) is
    (none_counted cell (bytes_so cell (λ a. false)) old (λ c. count_none (λ a. false) cell (c * cell) (λ x from upto. refl)))

pub next_line : (cell : ℕ) (w : Wanted) (lines : List PlanLine) (i : ℕ) (d : PlanLine) (c : ℕ) → i < length lines
    → new_bytes cell w (take (i + 1) lines) c
    ≡ new_bytes cell w (take i lines) c + bytes_so cell (λ a. works work.Programmed (get_or lines i d) a && is_new w a) c
next_line cell w lines i d c inside = fold_more (λ n line. n + bytes_so cell (λ a. works work.Programmed line a && is_new w a) c) 0 lines i d inside
