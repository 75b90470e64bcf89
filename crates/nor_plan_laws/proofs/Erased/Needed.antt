-- What is erased is what is needed, by the largest blocks.
use Rattle.std.proofs.Common.{◌≡◌, ◌⊎◌, ℕ, zero, suc, ◌+◌, ◌-◌, ◌%◌, ◌<◌, ◌≤◌, nat_le, nat_lt, Bool, true, false, ◌&&◌, List, [], ◌∷◌, ◌++◌, Option, Some, None, option_map, refl, sym, ◌∙◌, ap, arith, inl, inr, leb-true, ltb-true, append_assoc}
use Rattle.std.specs.Prelude.{is_some, flat_map}
use Rattle.std.specs.List.{list_any, list_all, range_with_len}
use Rattle.std.specs.Option.{option_map_or}
use Rattle.std.proofs.lemmas.Bool.{and_parts, cases_lt, or_cases}
use Rattle.nor_base.specs.declared.meaning.Erase.{Erase}
use Rattle.nor_base.specs.declared.meaning.Start.{Start}
use Rattle.nor_base.specs.declared.meaning.Strategy.{Strategy}
use Rattle.nor_base.specs.Parameters.{Parameters, block_size}
use Rattle.nor_base.specs.Accepted.{IsAccepted}
use Rattle.nor_base.specs.Blocks.{Block, Holds, AreDisjoint, LiesIn, IsLegalBlock, block_holds, block_at, is_legal, kinds, smallest}
use Rattle.nor_base.specs.Strategies.{strategy, reaches}
use Rattle.nor_base.specs.Need.{is_due, is_needed, lies_in_needed, erasable, erased_at}
use Rattle.nor_base.specs.Units.{unit_by, units_over}
use Rattle.nor_base.specs.Planned.{IsWorkable}
use Rattle.nor_laws.proofs.BlockLaws.{blocks_nest}
use Rattle.nor_plan_laws.specs.Least.{IsErased}
use Rattle.nor_plan_laws.proofs.Erased.Best.{best_is, best_bounds, NoneLarger, Among, picked, some_best}
use Rattle.nor_geometry.proofs.KindLemmas.{legal_kind, size_of}
use Rattle.nor_plan_laws.proofs.Erased.Erasing.{there, can_erase, erased_all, erasable_is, is_block, legal_parts}
use Rattle.nor_base.proofs.StretchLaws.{all_over}
use Rattle.nor_plan_laws.proofs.Erased.Reached.{four, small, erased_where_due}

-- an address at which a test over a stretch passes
record Finds (test : ℕ → Bool) (start n : ℕ) : Type 0 where
  at : ℕ
  from : start ≤ at
  upto : at < start + n
  passes : test at ≡ true

found : (test : ℕ → Bool) (n start : ℕ) → list_any test (range_with_len start n) ≡ true → Finds test start n
found test zero start h = cc
found test (suc n) start h = elim (or_cases (test start) (list_any test (range_with_len (start + 1) n)) h) [
  | inl here ↦ record { at = start; from = omega arith; upto = omega arith; passes = here }
  | inr later ↦ let f = found test n (start + 1) later in
      record { at = f.at; from = omega (arith, f.from); upto = omega (arith, f.upto); passes = f.passes }
]

pub all_at : (test : ℕ → Bool) (n start x : ℕ) → list_all test (range_with_len start n) ≡ true → start ≤ x → x < start + n → test x ≡ true
all_at test zero start x h from upto = absurd (omega arith)
all_at test (suc n) start x h from upto =
    let parts = and_parts (test start) (list_all test (range_with_len (start + 1) n)) h in
    elim (cases_lt start x) [
      | inl past ↦ all_at test n (start + 1) x parts.1 (omega arith) (omega arith)
      | inr here' ↦ let here : start ≡ x = omega arith in ap test (sym here) ∙ parts.0
    ]

-- an address that is due, whose smallest block holds this one
pub record IsCaused (m : Parameters) (due : ℕ → Bool) (a : ℕ) : Type 0 where
  pub cause : ℕ
  pub block : Block
  pub inside : cause < m.size
  pub is_due : due cause ≡ true
  pub is : smallest m cause ≡ Some block
  pub low : block.start ≤ a
  pub high : a < block.start + block.size

caused_by : (m : Parameters) (due : ℕ → Bool) (a cause : ℕ) (o : Option Block) → cause < m.size → due cause ≡ true → smallest m cause ≡ o
    → option_map_or (block_holds a) o false ≡ true → IsCaused m due a
caused_by m due a cause None inside due_so is h = cc
caused_by m due a cause (Some b) inside due_so is h =
    let parts = and_parts (nat_le b.start a) (nat_lt a (b.start + b.size)) h in
    record { cause = cause; block = b; inside = inside; is_due = due_so; is = is; low = leb-true b.start a parts.0; high = ltb-true a (b.start + b.size) parts.1 }

pub needed_caused : (m : Parameters) (due : ℕ → Bool) (a : ℕ) → is_needed m due a ≡ true → IsCaused m due a
unfolding is_needed
needed_caused m due a h =
    let f = found (λ cause. due cause && option_map_or (block_holds a) (smallest m cause) false) m.size 0 h in
    let parts = and_parts (due f.at) (option_map_or (block_holds a) (smallest m f.at) false) f.passes in
    caused_by m due a f.at (smallest m f.at) (omega (arith, f.upto)) parts.0 refl parts.1

-- each legal block that holds an address holds its smallest one
pub holds_smallest : (m : Parameters) (a k : ℕ) (b s : Block) → IsAccepted m → block_at m a k ≡ Some b → smallest m a ≡ Some s → LiesIn s b
holds_smallest m a k b s accepted at is =
    let t = there m a k b accepted at in
    let u = small m a s accepted is in
    let least : s.size ≤ b.size = u.least k b at in
    elim (blocks_nest m b s accepted t.legal_block u.is.legal_block) [
      | inl apart ↦ elim apart [ inl before ↦ absurd (omega (arith, t.high, u.is.low)) | inr after ↦ absurd (omega (arith, t.low, u.is.high)) ]
      | inr nest ↦ elim nest [
        | inl within ↦ (omega (arith, within.0, within.1, least), omega (arith, within.0, within.1, least))
        | inr around ↦ around
      ]
    ]

pub some_of : (o : Option Block) → is_some o ≡ true → (b : Block) × (o ≡ Some b)
some_of None h = cc
some_of (Some b) h = (b, refl)

pub erased_needed : (m : Parameters) (by : Strategy) (due : ℕ → Bool) (a : ℕ) (b : Block) → IsAccepted m → erased_at m by due a ≡ Some b → is_needed m due a ≡ true
unfolding erased_at lies_in_needed
erased_needed m by due a b accepted h =
    let some = picked (erasable m by due a) kinds b (best_is (erasable m by due a) kinds b h) in
    let e = can_erase m by due a some.0 b some.1 in
    let t = there m a some.0 b accepted e.at in
    all_at (is_needed m due) b.size b.start a e.needed t.low t.high

needed_erased : (m : Parameters) (start : Start) (have want : List ℕ) (a : ℕ) → IsWorkable m start have want → is_needed m (is_due m have want) a ≡ true
    → is_some (erased_at m (strategy m start) (is_due m have want) a) ≡ true
unfolding erased_at
needed_erased m start have want a w h =
    let c = needed_caused m (is_due m have want) a h in
    let o = erased_where_due m start have want c.cause w.accepted c.inside (w.sound c.cause c.inside) c.is_due in
    let b = some_of (erased_at m (strategy m start) (is_due m have want) c.cause) o in
    let some = picked (erasable m (strategy m start) (is_due m have want) c.cause) kinds b.0 (best_is (erasable m (strategy m start) (is_due m have want) c.cause) kinds b.0 b.1) in
    let e = can_erase m (strategy m start) (is_due m have want) c.cause some.0 b.0 some.1 in
    let lies = holds_smallest m c.cause some.0 b.0 c.block w.accepted e.at c.is in
    ap (λ (x : Option Block). is_some x) (erased_all m (strategy m start) (is_due m have want) c.cause a b.0 w.accepted b.1 (omega (arith, lies.0, c.low)) (omega (arith, lies.1, c.high)))

pub same_truth : (x y : Bool) → (x ≡ true → y ≡ true) → (y ≡ true → x ≡ true) → x ≡ y
same_truth true y on back = sym (on refl)
same_truth false true on back = back refl
same_truth false false on back = refl

pub erases_needed : (m : Parameters) (start : Start) (have want : List ℕ) (a : ℕ) → IsWorkable m start have want
    → is_some (erased_at m (strategy m start) (is_due m have want) a) ≡ is_needed m (is_due m have want) a
erases_needed m start have want a w =
    same_truth (is_some (erased_at m (strategy m start) (is_due m have want) a)) (is_needed m (is_due m have want) a)
    (λ h. let b = some_of (erased_at m (strategy m start) (is_due m have want) a) h in erased_needed m (strategy m start) (is_due m have want) a b.0 w.accepted b.1)
    (needed_erased m start have want a w)

pub erases_blocks : (m : Parameters) (by : Strategy) (due : ℕ → Bool) (a : ℕ) (b : Block) → IsAccepted m → erased_at m by due a ≡ Some b → IsErased m by due a b
unfolding erased_at
erases_blocks m by due a b accepted h =
    let some = picked (erasable m by due a) kinds b (best_is (erasable m by due a) kinds b h) in
    let e = can_erase m by due a some.0 b some.1 in
    let t = there m a some.0 b accepted e.at in
    record { legal = t.legal_block; reached = e.reached; here = (t.low, t.high); whole = λ x held. erased_all m by due a x b accepted h held.0 held.1 }

pub erases_apart : (m : Parameters) (by : Strategy) (due : ℕ → Bool) (a x : ℕ) (b c : Block) → IsAccepted m → erased_at m by due a ≡ Some b
    → erased_at m by due x ≡ Some c → AreDisjoint b c ⊎ (b ≡ c)
erases_apart m by due a x b c accepted first second =
    let p = erases_blocks m by due a b accepted first in
    let q = erases_blocks m by due x c accepted second in
    elim (cases_lt c.start (b.start + b.size)) [
      | inr before ↦ inl (inl before)
      | inl overlap ↦ elim (cases_lt b.start (c.start + c.size)) [
        | inr after ↦ inl (inr after)
        | inl overlap' ↦ elim (cases_lt b.start c.start) [
          | inl later ↦
              let of_b = p.whole c.start (omega arith, overlap) in
              let of_c = q.whole c.start (omega arith, omega (arith, q.here.0, q.here.1)) in
              let same : Some b ≡ Some c = sym of_b ∙ of_c in
              inr cc
          | inr first_b ↦
              let of_b = p.whole b.start (omega arith, omega (arith, p.here.0, p.here.1)) in
              let of_c = q.whole b.start (first_b, overlap') in
              let same : Some b ≡ Some c = sym of_b ∙ of_c in
              inr cc
        ]
      ]
    ]

-- a legal block is the one of its kind at its start
pub block_here : (m : Parameters) (c : Block) → IsAccepted m → IsLegalBlock m c → block_at m c.start c.kind ≡ Some c
block_here m c accepted legal =
    let kind = legal_kind m c.kind c.start legal.legal in
    let found_size : Some kind.erase.size ≡ Some c.size = ap (option_map (λ (erase : Erase). erase.size)) (sym kind.there) ∙ legal.size in
    let same : kind.erase.size ≡ c.size = cc in
    let size : block_size m c.kind ≡ c.size = size_of m c.kind kind.erase kind.there ∙ same in
    let aligned : c.start % block_size m c.kind ≡ 0 = (legal_parts m c.kind c.start legal.legal).0 in
    let floor : c.start - c.start % block_size m c.kind ≡ c.start = omega (arith, aligned) in
    is_block m c.start c.kind (ap (is_legal m c.kind) floor ∙ legal.legal)
    ∙ ap (λ n. Some (record { start = n; size = block_size m c.kind; kind = c.kind })) floor
    ∙ ap (λ n. Some (record { start = c.start; size = n; kind = c.kind })) size

none_among : (of : ℕ → Option Block) (ks : List ℕ) (k : ℕ) (b c : Block) → NoneLarger of ks b → Among ks k → of k ≡ Some c → c.size ≤ b.size
none_among of [] k b c none among is = absurd among
none_among of (j ∷ js) k b c none (inl same) is = none.0 c (ap of same ∙ is)
none_among of (j ∷ js) k b c none (inr later) is = none_among of js k b c none.1 later is

pub erases_largest : (m : Parameters) (by : Strategy) (due : ℕ → Bool) (c : Block) → IsAccepted m → IsLegalBlock m c → reaches by m c.kind c.start ≡ true
    → ((x : ℕ) → Holds c x → is_needed m due x ≡ true) → (b : Block) × (erased_at m by due c.start ≡ Some b) × LiesIn c b
unfolding erased_at lies_in_needed
erases_largest m by due c accepted legal reached needed =
    let at = block_here m c accepted legal in
    let lies : list_all (is_needed m due) (range_with_len c.start c.size) ≡ true = all_over (is_needed m due) c.size c.start (λ x from upto. needed x (from, upto)) in
    let among = four m c.kind accepted (legal_kind m c.kind c.start legal.legal) in
    let can = erasable_is m by due c.start c.kind c at reached lies in
    let b = some_of (erased_at m by due c.start) (some_best (erasable m by due c.start) kinds c.kind c among can) in
    let best = best_is (erasable m by due c.start) kinds b.0 b.1 in
    let larger : c.size ≤ b.0.size = none_among (erasable m by due c.start) kinds c.kind b.0 c (best_bounds (erasable m by due c.start) kinds b.0 best) among can in
    let some = picked (erasable m by due c.start) kinds b.0 best in
    let e = can_erase m by due c.start some.0 b.0 some.1 in
    let t = there m c.start some.0 b.0 accepted e.at in
    let u = there m c.start c.kind c accepted at in (
      b.0,
      b.1,
      elim (blocks_nest m c b.0 accepted legal t.legal_block) [
        | inl apart ↦ elim apart [ inl before ↦ absurd (omega (arith, t.low, t.high, u.some, before)) | inr after ↦ absurd (omega (arith, t.low, t.high, after)) ]
        | inr nest ↦ elim nest [
          | inl within ↦ within
          | inr around ↦ (omega (arith, around.0, around.1, larger), omega (arith, around.0, around.1, larger))
        ]
      ],
    )

joins : {X Y : Type 0} (f : X → List Y) (xs ys : List X) → flat_map f (xs ++ ys) ≡ flat_map f xs ++ flat_map f ys
joins f [] ys = refl
joins f (x ∷ xs) ys = ap (λ rest. f x ++ rest) (joins f xs ys) ∙ sym (append_assoc (f x) (flat_map f xs) (flat_map f ys))

pub units_join : (m : Parameters) (level want : List ℕ) (erased : ℕ → Option Block) (first second : List ℕ)
    → units_over m level want erased (first ++ second) ≡ units_over m level want erased first ++ units_over m level want erased second
unfolding units_over
units_join m level want erased first second = joins (λ start. unit_by m level want start (erased start)) first second
