-- From one byte that is due to the next.
use Rattle.std.proofs.Common.{◌≡◌, ◌⊎◌, ℕ, ◌+◌, ◌-◌, ◌<◌, ◌≤◌, Bool, true, false, not, ◌&&◌, List, Option, Some, None, refl, ap, arith, inl, inr}
use Rattle.std.specs.Prelude.{is_some, slice_index}
use Rattle.std.proofs.lemmas.Bool.{cases_lt, cases_Bool, both_ways, and_parts}
use Rattle.nor_base.specs.declared.meaning.Start.{Start}
use Rattle.nor_base.specs.declared.meaning.Strategy.{Strategy}
use Rattle.nor_base.specs.Parameters.{Parameters}
use Rattle.nor_base.specs.Accepted.{IsAccepted}
use Rattle.nor_base.specs.Blocks.{Block, Holds, IsLegalBlock, block_at, kinds, smallest}
use Rattle.nor_base.specs.Strategies.{strategy}
use Rattle.nor_base.specs.Effect.{may_program}
use Rattle.nor_base.specs.Need.{differs, is_due, is_needed, is_beyond, is_unreachable, lacks_erase, is_at_fault}
use Rattle.nor_geometry.specs.Legal.{IsSmallestAt}
use Rattle.nor_plan_laws.proofs.Erased.Best.{none_small}
use Rattle.nor_geometry.proofs.KindLemmas.{legal_kind}
use Rattle.nor_plan_laws.proofs.Erased.Reached.{four, small}
use Rattle.nor_plan_laws.proofs.Erased.Needed.{needed_caused}
use Rattle.nor_erase.proofs.Runs.{same_smallest, needed_of, erased_is, at_address}
use Rattle.nor_erase.proofs.Tiling.{IsIn, IsRunTo, IsSame, smallest_same}

and_none : (x : Bool) → x && false ≡ false
and_none true = refl
and_none false = refl

-- where a legal block holds an address there is a smallest one
pub some_smallest : (m : Parameters) (x : ℕ) (b : Block) → IsAccepted m → IsLegalBlock m b → Holds b x → is_some (smallest m x) ≡ true
unfolding smallest
some_smallest m x b accepted legal here = by_found (smallest m x) refl
  where
    by_found : (o : Option Block) → smallest m x ≡ o → is_some (smallest m x) ≡ true
    by_found None is = absurd (none_small (block_at m x) kinds is b.kind b (four m b.kind accepted (legal_kind m b.kind b.start legal.legal)) (at_address m x b accepted legal here))
    by_found (Some s) is = ap (λ (o : Option Block). is_some o) is

pub no_fault : (m : Parameters) (by : Strategy) (have want : List ℕ) (x : ℕ) → is_unreachable by have want x ≡ false
    → (is_due m have want x ≡ false) ⊎ (is_some (smallest m x) ≡ true) → is_at_fault m by have want x ≡ false
unfolding lacks_erase
no_fault m by have want x reach (inl due) = rw (reach, due) (and_none (not (is_beyond by x)))
no_fault m by have want x reach (inr some) = rw (reach, some, and_none (is_due m have want x)) (and_none (not (is_beyond by x)))

pub near_where_due : (m : Parameters) (by : Strategy) (have want : List ℕ) (a : ℕ) → is_unreachable by have want a ≡ false → is_due m have want a ≡ true → is_beyond by a ≡ false
near_where_due m by have want a reach due =
    let apart : differs have want a ≡ true = (and_parts (differs have want a) (not (may_program m (slice_index have a) (slice_index want a))) due).0 in
    elim (cases_Bool (is_beyond by a)) [
      | inl beyond ↦ absurd (both_ways (is_unreachable by have want a) reach (rw (beyond, apart) refl))
      | inr near ↦ near
    ]

-- the strategy's smallest block round the next byte that is due
pub record IsStep (m : Parameters) (start : Start) (have want : List ℕ) (end high a : ℕ) (b : Block) : Type 0 where
  pub block : Block
  pub same : IsSame m a b block
  pub due : is_due m have want a ≡ true
  pub inside : a < m.size
  pub here : Holds b a
  pub legal : IsLegalBlock m b
  pub order : high ≤ b.start
  pub fits : b.start + b.size ≤ end
  pub gap : (x : ℕ) → high ≤ x → x < b.start → is_needed m (is_due m have want) x ≡ false
  pub quiet : (x : ℕ) → high ≤ x → x < b.start → is_due m have want x ≡ false

pub step_of : (m : Parameters) (start : Start) (have want : List ℕ) (at end low high a : ℕ) (b : Block) → IsIn m at end → IsRunTo m start have want at low high
    → high ≤ a → a < end → is_due m have want a ≡ true → ((x : ℕ) → high ≤ x → x < a → is_due m have want x ≡ false)
    → is_unreachable (strategy m start) have want a ≡ false → IsSmallestAt m (strategy m start) a b → IsStep m start have want end high a b
step_of m start have want at end low high a b w r from upto due before reach h =
    let near = near_where_due m (strategy m start) have want a reach due in
    let s = smallest_same m start a b w.accepted near h in
    let u = small m a s.0 w.accepted s.1.is in
    let here = h.listed.is.here in
    let order : high ≤ b.start = elim (cases_lt b.start high) [
      | inl first ↦ let apart = r.uncut a s.0 due s.1.is (omega (arith, s.1.start)) in absurd (omega (arith, apart, u.is.high))
      | inr fits ↦ fits
    ] in
    record {
      block = s.0;
      same = s.1;
      due = due;
      inside = omega (arith, w.inside);
      here = here;
      legal = h.listed.is.legal;
      order = order;
      fits = w.high b h.listed.is.legal (omega (arith, here.0));
      gap = λ x low_x high_x. elim (cases_Bool (is_needed m (is_due m have want) x)) [
        | inr none ↦ none
        | inl needed ↦
            let c = needed_caused m (is_due m have want) x needed in
            let v = small m c.cause c.block w.accepted c.is in
            elim (cases_lt c.cause high) [
              | inl first ↦ let apart = r.uncut c.cause c.block c.is_due c.is (omega (arith, v.is.low)) in absurd (omega (arith, apart, c.high))
              | inr later ↦ elim (cases_lt c.cause a) [
                | inl quiet ↦ absurd (both_ways (is_due m have want c.cause) (before c.cause later quiet) c.is_due)
                | inr past ↦ elim (same_smallest m a c.cause s.0 c.block w.accepted s.1.is c.is) [
                  | inl apart ↦ elim apart [
                    | inl one ↦ absurd (omega (arith, one, u.is.high, c.low, here.0))
                    | inr two ↦ absurd (omega (arith, two, v.is.high, u.is.low))
                  ]
                  | inr equal ↦ absurd (omega (arith, equal.0, s.1.start, c.low))
                ]
              ]
            ]
      ];
      quiet = λ x low_x high_x. before x low_x (omega (arith, here.0));
    }

-- what is needed and sound up to the block's end
step_needed : (m : Parameters) (start : Start) (have want : List ℕ) (end high a : ℕ) (b : Block) → IsStep m start have want end high a b
    → (x : ℕ) → b.start ≤ x → x < b.start + b.size → is_needed m (is_due m have want) x ≡ true
step_needed m start have want end high a b t x from upto =
    needed_of m (is_due m have want) x a t.block t.inside t.due t.same.is (omega (arith, t.same.start)) (omega (arith, t.same.start, t.same.size))

step_uncut : (m : Parameters) (start : Start) (have want : List ℕ) (end high a : ℕ) (b : Block) → IsAccepted m → IsStep m start have want end high a b
    → (cause : ℕ) (s : Block) → is_due m have want cause ≡ true → smallest m cause ≡ Some s → s.start < b.start + b.size → s.start + s.size ≤ b.start + b.size
step_uncut m start have want end high a b accepted t cause s due is before = elim (same_smallest m a cause t.block s accepted t.same.is is) [
  | inl apart ↦ elim apart [
    | inl one ↦ absurd (omega (arith, one, t.same.start, t.same.size))
    | inr two ↦ omega (arith, two, t.same.start)
  ]
  | inr equal ↦ omega (arith, equal.0, equal.1, t.same.start, t.same.size)
]

step_sound : (m : Parameters) (start : Start) (have want : List ℕ) (at end low high a : ℕ) (b : Block) → IsAccepted m → IsRunTo m start have want at low high
    → IsStep m start have want end high a b → ((x : ℕ) → at ≤ x → x < end → is_unreachable (strategy m start) have want x ≡ false)
    → (x : ℕ) → at ≤ x → x < b.start + b.size → is_at_fault m (strategy m start) have want x ≡ false
step_sound m start have want at end low high a b accepted r t reach x from upto = elim (cases_lt x high) [
  | inl first ↦ r.sound x from first
  | inr later ↦ elim (cases_lt x b.start) [
    | inl gap ↦ no_fault m (strategy m start) have want x (reach x from (omega (arith, t.fits))) (inl (t.quiet x later gap))
    | inr in_block ↦ no_fault m (strategy m start) have want x (reach x from (omega (arith, t.fits))) (inr (some_smallest m x b accepted t.legal (in_block, upto)))
  ]
]

pub step_on : (m : Parameters) (start : Start) (have want : List ℕ) (at end low high a : ℕ) (b : Block) → IsIn m at end → IsRunTo m start have want at low high
    → IsStep m start have want end high a b → ((x : ℕ) → at ≤ x → x < end → is_unreachable (strategy m start) have want x ≡ false)
    → b.start ≤ high → IsRunTo m start have want at low (b.start + b.size)
step_on m start have want at end low high a b w r t reach touches = record {
  needed = λ x from upto. elim (cases_lt x high) [
    | inl first ↦ r.needed x from first
    | inr later ↦ step_needed m start have want end high a b t x (omega arith) upto
  ];
  border = r.border;
  uncut = step_uncut m start have want end high a b w.accepted t;
  sound = step_sound m start have want at end low high a b w.accepted r t reach;
}

pub step_over : (m : Parameters) (start : Start) (have want : List ℕ) (at end low high a : ℕ) (b : Block) → IsIn m at end → IsRunTo m start have want at low high
    → IsStep m start have want end high a b → ((x : ℕ) → at ≤ x → x < end → is_unreachable (strategy m start) have want x ≡ false)
    → high < b.start → IsRunTo m start have want at b.start (b.start + b.size)
step_over m start have want at end low high a b w r t reach apart = record {
  needed = step_needed m start have want end high a b t;
  border = λ x c is before. elim (cases_lt b.start (c.start + c.size)) [
    | inr fits ↦ fits
    | inl crosses ↦
        let e = erased_is m (strategy m start) (is_due m have want) x c w.accepted is in
        absurd (both_ways (is_needed m (is_due m have want) (b.start - 1)) (t.gap (b.start - 1) (omega arith) (omega arith)) (e.needed (b.start - 1) (omega arith) (omega arith)))
  ];
  uncut = step_uncut m start have want end high a b w.accepted t;
  sound = step_sound m start have want at end low high a b w.accepted r t reach;
}

pub first_run : (m : Parameters) (start : Start) (have want : List ℕ) (at end : ℕ) → IsIn m at end → IsRunTo m start have want at at at
first_run m start have want at end w = record {
  needed = λ x from upto. absurd (omega arith);
  border = λ x c is. w.low c (erased_is m (strategy m start) (is_due m have want) x c w.accepted is).reached.legal;
  uncut = λ cause s due is. w.low s (small m cause s w.accepted is).is.legal_block;
  sound = λ x from upto. absurd (omega arith);
}

-- after the last byte that is due
pub last_gap : (m : Parameters) (start : Start) (have want : List ℕ) (at end low high : ℕ) → IsIn m at end → IsRunTo m start have want at low high
    → ((x : ℕ) → high ≤ x → x < end → is_due m have want x ≡ false) → (x : ℕ) → high ≤ x → x < end → is_needed m (is_due m have want) x ≡ false
last_gap m start have want at end low high w r quiet x from upto = elim (cases_Bool (is_needed m (is_due m have want) x)) [
  | inr none ↦ none
  | inl needed ↦
      let c = needed_caused m (is_due m have want) x needed in
      let v = small m c.cause c.block w.accepted c.is in
      elim (cases_lt c.cause high) [
        | inl first ↦ let apart = r.uncut c.cause c.block c.is_due c.is (omega (arith, v.is.low)) in absurd (omega (arith, apart, c.high))
        | inr later ↦
            let fits = w.high c.block v.is.legal_block (omega (arith, c.low)) in
            absurd (both_ways (is_due m have want c.cause) (quiet c.cause later (omega (arith, fits, v.is.high))) c.is_due)
      ]
]

pub last_sound : (m : Parameters) (start : Start) (have want : List ℕ) (at end low high : ℕ) → IsRunTo m start have want at low high
    → ((x : ℕ) → high ≤ x → x < end → is_due m have want x ≡ false)
    → ((x : ℕ) → at ≤ x → x < end → is_unreachable (strategy m start) have want x ≡ false)
    → (x : ℕ) → at ≤ x → x < end → is_at_fault m (strategy m start) have want x ≡ false
last_sound m start have want at end low high r quiet reach x from upto = elim (cases_lt x high) [
  | inl first ↦ r.sound x from first
  | inr later ↦ no_fault m (strategy m start) have want x (reach x from upto) (inl (quiet x later upto))
]
