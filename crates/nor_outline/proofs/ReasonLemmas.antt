-- A block is its smallest blocks side by side.
use Rattle.std.proofs.Common.{◌≡◌, ℕ, suc, ◌+◌, ◌-◌, ◌^◌, ◌<◌, ◌≤◌, ◌==◌, Bool, true, false, if◌then◌else◌, List, [], ◌++◌, Option, Some, None, refl, sym, ◌∙◌, ap, subst, arith, inl, inr, eq-eqb, append-nil}
use Rattle.std.specs.Prelude.{flat_map}
use Rattle.std.specs.List.{range_with_len}
use Rattle.std.proofs.lemmas.Bool.{cases_lt, cases_Bool, lt-leb, leb-false, not-true, eqb-true}
use Rattle.nor_base.specs.declared.meaning.Strategy.{Strategy}
use Rattle.nor_base.specs.declared.meaning.Strategy.TheVariants.{S1, S2, S3, S4, S5}
use Rattle.nor_base.specs.Parameters.{Parameters}
use Rattle.nor_base.specs.Accepted.{IsAccepted}
use Rattle.nor_base.specs.Blocks.{Block, Holds, IsLegalBlock, block_at, kinds, smallest}
use Rattle.nor_base.specs.Need.{is_beyond}
use Rattle.nor_base.specs.Strategies.{is_far, reaches, strategy}
use Rattle.nor_geometry.specs.Legal.{IsReachedAt, IsSmallestAt}
use Rattle.nor_geometry.specs.Window.{IsUncrossed}
use Rattle.nor_plan_laws.specs.Able.{BlocksStay}
use Rattle.nor_plan_laws.proofs.Erased.Best.{none_small}
use Rattle.nor_geometry.proofs.KindLemmas.{legal_kind}
use Rattle.nor_plan_laws.proofs.Erased.Reached.{four, small}
use Rattle.nor_plan_laws.proofs.Erased.Needed.{holds_smallest}
use Rattle.nor_erase.proofs.Runs.{same_smallest, at_address}
use Rattle.nor_erase.proofs.Tiling.{IsSame, smallest_same}
use Rattle.nor_outline.specs.Outline.{reason, reason_at}
use Rattle.nor_outline.specs.Parts.{MayErase}
use Rattle.nor_outline.specs.declared.line.PlanLine.{PlanLine}
use Rattle.nor_outline.proofs.RangeLemmas.{flat_none}

-- no smallest block lies across an address
pub record IsBorder (m : Parameters) (x : ℕ) : Type 0 where
  pub uncut : (a : ℕ) (s : Block) → smallest m a ≡ Some s → IsUncrossed x s.start s.size

-- what holds of the smallest block at a border within a block
pub record IsNextIn (m : Parameters) (b : Block) (start : ℕ) (least : Block) : Type 0 where
  pub some : 0 < least.size
  pub fits : start + least.size ≤ b.start + b.size
  pub border : IsBorder m (start + least.size)
  pub text : (due : ℕ → Bool) → flat_map (reason_at m due) (range_with_len start least.size) ≡ reason due start least.size

-- the strategy reaches each address of a block that it may erase
near_in : (m : Parameters) (by : Strategy) (b : Block) (x : ℕ) → BlocksStay → IsAccepted m → IsLegalBlock m b → reaches by m b.kind b.start ≡ true
    → Holds b x → is_beyond by x ≡ false
near_in m S1 b x stay accepted legal reached held = refl
near_in m S2 b x stay accepted legal reached held = refl
near_in m S3 b x stay accepted legal reached held = refl
near_in m S4 b x stay accepted legal reached held = refl
near_in m S5 b x stay accepted legal reached held =
    let near : is_far b.start ≡ false = not-true (is_far b.start) reached in
    let before : b.start < 0x1000000 = leb-false 0x1000000 b.start near in
    let ends : b.start + b.size ≤ 2 ^ 24 = stay m b accepted legal (omega arith) in
    lt-leb 0x1000000 x (omega (arith, held.1, ends))

-- a legal block holds a smallest one at each of its addresses
some_smallest : (m : Parameters) (b : Block) (x : ℕ) → IsAccepted m → IsLegalBlock m b → Holds b x → (s : Block) × (smallest m x ≡ Some s)
unfolding smallest
some_smallest m b x accepted legal held = by_found (smallest m x) refl
  where
    by_found : (o : Option Block) → smallest m x ≡ o → (s : Block) × (smallest m x ≡ Some s)
    by_found None is =
        absurd (none_small (block_at m x) kinds is b.kind b (four m b.kind accepted (legal_kind m b.kind b.start legal.legal)) (at_address m x b accepted legal held))
    by_found (Some s) is = (s, is)

-- a block's start is a border
pub first_border : (m : Parameters) (b : Block) → IsAccepted m → IsLegalBlock m b → 0 < b.size → IsBorder m b.start
first_border m b accepted legal some = record {
  uncut = λ a s s_is before. elim (cases_lt b.start (s.start + s.size)) [
    | inr fits ↦ fits
    | inl past ↦
        let held : Holds b b.start = (omega arith, omega arith) in
        let t = some_smallest m b b.start accepted legal held in
        let lies = holds_smallest m b.start b.kind b t.0 accepted (at_address m b.start b accepted legal held) t.1 in
        let u = small m b.start t.0 accepted t.1 in
        elim (same_smallest m a b.start s t.0 accepted s_is t.1) [
          | inl apart ↦ elim apart [ inl first ↦ absurd (omega (arith, first, u.is.low)) | inr after ↦ absurd (omega (arith, after, u.is.high)) ]
          | inr same ↦ absurd (omega (arith, same.0, lies.0))
        ]
  ];
}

if_not : (n : ℕ) (x : ℕ) (t : List PlanLine) → n < x → (if n == x then t else []) ≡ []
if_not n x t less = elim (cases_Bool (n == x)) [
  | inl is ↦ let same = eqb-true n x is in absurd (omega arith)
  | inr is ↦ rw is refl
]

-- the lines of a smallest block are the line of its start
one_reason : (m : Parameters) (due : ℕ → Bool) (s : Block) (n : ℕ) → IsAccepted m → smallest m s.start ≡ Some s → s.size ≡ suc n
    → flat_map (reason_at m due) (range_with_len s.start (suc n)) ≡ reason due s.start s.size
one_reason m due s n accepted is size =
    ap (λ xs. xs ++ flat_map (reason_at m due) (range_with_len (s.start + 1) n)) first
    ∙ ap (λ xs. reason due s.start s.size ++ xs) (flat_none (reason_at m due) n (s.start + 1) (λ x from upto. by_found x from upto (smallest m x) refl))
    ∙ append-nil (reason due s.start s.size)
  where
    first : reason_at m due s.start ≡ reason due s.start s.size
    first = rw (is, eq-eqb s.start s.start refl) refl

    by_found : (x : ℕ) → s.start + 1 ≤ x → x < (s.start + 1) + n → (o : Option Block) → smallest m x ≡ o → reason_at m due x ≡ []
    by_found x from upto None found = rw found refl
    by_found x from upto (Some t) found =
        let u = small m x t accepted found in
        rw found (elim (same_smallest m s.start x s t accepted is found) [
          | inl apart ↦ elim apart [ inl before ↦ absurd (omega (arith, before, u.is.low)) | inr after ↦ absurd (omega (arith, after, u.is.high)) ]
          | inr same ↦ if_not t.start x (reason due t.start t.size) (omega (arith, same.0))
        ])

pub next_in : (m : Parameters) (by : Strategy) (b : Block) (start : ℕ) (least : Block) → BlocksStay → IsAccepted m → MayErase m by b → Holds b start → IsBorder m start
    → IsSmallestAt m by start least → IsNextIn m b start least
next_in m by b start least stay accepted may held border is =
    let by_is = may.its_strategy in
    let near : is_beyond (strategy m may.start) start ≡ false =
    near_in m (strategy m may.start) b start stay accepted may.legal (subst (λ (x : Strategy). reaches x m b.kind b.start ≡ true) by_is may.reached) held in
    let same = smallest_same m may.start start least accepted near (subst (λ (x : Strategy). IsSmallestAt m x start least) by_is is) in
    made same.0 same.1
  where
    made : (s : Block) → IsSame m start least s → IsNextIn m b start least
    made s same =
        let u = small m start s accepted same.is in
        let lies = holds_smallest m start b.kind b s accepted (at_address m start b accepted may.legal held) same.is in
        let starts : s.start ≡ start = elim (cases_lt s.start start) [
          | inl before ↦ let cut = border.uncut start s same.is before in absurd (omega (arith, cut, u.is.high))
          | inr after ↦ omega (arith, after, u.is.low)
        ] in
        let some : 0 < s.size = u.is.some in
        let size : s.size ≡ suc (s.size - 1) = omega arith in
        let at_start : smallest m s.start ≡ Some s = ap (smallest m) starts ∙ same.is in
        record {
          some = omega (arith, same.size, some);
          fits = omega (arith, same.size, starts, lies.1);
          border = record {
            uncut = λ a t t_is before. elim (same_smallest m start a s t accepted same.is t_is) [
              | inl apart ↦ elim apart [
                | inl first ↦ absurd (omega (arith, first, before, starts, same.size))
                | inr after ↦ omega (arith, after, starts)
              ]
              | inr both ↦ omega (arith, both.0, both.1, starts, same.size)
            ];
          };
          text = λ due.
              let whole = one_reason m due s (s.size - 1) accepted at_start size in
              let count : suc (s.size - 1) ≡ least.size = sym size ∙ same.size in
              ap (λ x. flat_map (reason_at m due) (range_with_len x least.size)) (sym starts)
              ∙ ap (λ n. flat_map (reason_at m due) (range_with_len s.start n)) (sym count)
              ∙ whole ∙ ap (λ x. reason due x s.size) starts ∙ ap (reason due start) same.size;
        }

-- the strategy has a block at each address of one that it may erase
pub never_none : (m : Parameters) (by : Strategy) (b : Block) (x : ℕ) → MayErase m by b → Holds b x → ((c : Block) → IsReachedAt m by x c → ⊥) → ⊥
never_none m by b x may held none = none b (record { legal = may.legal; here = held; reached = may.reached })
