-- The work of stretches side by side.
use Rattle.std.proofs.Common.{◌≡◌, ℕ, zero, suc, ◌+◌, ◌*◌, ◌/◌, ◌%◌, ◌<◌, ◌≤◌, false, List, [], ◌∷◌, ◌++◌, length, sym, ◌∙◌, ap, subst, arith, inl, inr, length-append}
use Rattle.std.specs.Prelude.{flat_map}
use Rattle.std.proofs.Math.Nat.{div-add-mod', mul-add-div_right, zero-div}
use Rattle.std.proofs.lemmas.Bool.{cases_lt}
use Rattle.std.proofs.lemmas.Grind.{flat_map-append}
use Rattle.nor_base.specs.declared.meaning.Strategy.{Strategy}
use Rattle.nor_base.specs.Parameters.{Parameters}
use Rattle.nor_base.specs.Need.{is_due, erased_at, levelled, is_at_fault}
use Rattle.nor_base.specs.Units.{pages, units_over, units_of}
use Rattle.nor_base.specs.Operations.{Op, unit_ops}
use Rattle.nor_geometry.specs.declared.fault.PlanFault.{PlanFault}
use Rattle.nor_geometry.specs.declared.fault.PlanFault.TheVariants as plan
use Rattle.nor_geometry.specs.Plan.{HasPart, IsLowestAt, IsFault, IsFaultOf}
use Rattle.nor_outline.specs.Outline.{IsFaultless}
use Rattle.nor_steps.specs.Stretch.{stretch, extent}
use Rattle.nor_steps.specs.Work.{stretch_units, stretch_ops, IsWork, IsWorkOf}
use Rattle.nor_steps.specs.Writing.{Writing, written_on}
use Rattle.nor_plan_laws.proofs.Erased.Needed.{units_join}
use Rattle.norprog.proofs.Content.Targets.{part_left, part_right}

pages_join : (page a k n : ℕ) → pages page a (k + n) ≡ pages page a k ++ pages page (a + k * page) n
pages_join page a zero n =
    let none : zero + n ≡ n = omega arith in
    let here : a ≡ a + zero * page = omega arith in
    ap (pages page a) none ∙ ap (λ s. pages page s n) here
pages_join page a (suc k) n =
    let count : suc k + n ≡ suc (k + n) = omega arith in
    let there : a + page + k * page ≡ a + suc k * page = omega arith in
    ap (pages page a) count
    ∙ ap (λ rest. a ∷ rest) (pages_join page (a + page) k n ∙ ap (λ s. pages page (a + page) k ++ pages page s n) there)

-- the pages of a stretch of whole pages, and of what follows it
pages_split : (page at n : ℕ) → 0 < page → at % page ≡ 0 → pages page 0 ((at + n) / page) ≡ pages page 0 (at / page) ++ pages page at (n / page)
pages_split page at n some whole =
    let k = at / page in
    let all : k * page + at % page ≡ at = div-add-mod' at page in
    let start : k * page ≡ at = omega (arith, all, whole) in
    let there : 0 + k * page ≡ at = omega (arith, start) in
    let count : (at + n) / page ≡ k + n / page = ap (λ a. (a + n) / page) (sym start) ∙ mul-add-div_right some k n in
    ap (pages page 0) count ∙ pages_join page 0 k (n / page) ∙ ap (λ s. pages page 0 k ++ pages page s (n / page)) there

-- the units of two stretches side by side
pub stretch_units_join : (m : Parameters) (by : Strategy) (at n : ℕ) (content target : List ℕ) → 0 < m.page → at % m.page ≡ 0
    → stretch_units m by (extent 0 (at + n) content target) ≡ stretch_units m by (extent 0 at content target) ++ stretch_units m by (extent at n content target)
stretch_units_join m by at n content target some whole =
    let due = is_due m content target in
    let level = levelled m by due content in
    let erased = erased_at m by due in
    ap (units_over m level target erased) (pages_split m.page at n some whole)
    ∙ units_join m level target erased (pages m.page 0 (at / m.page)) (pages m.page at (n / m.page))

pub stretch_join : (w : Writing) (at n : ℕ) (content target : List ℕ) → 0 < w.streaming.meaning.page → at % w.streaming.meaning.page ≡ 0
    → stretch_ops w (extent 0 (at + n) content target) ≡ stretch_ops w (extent 0 at content target) ++ stretch_ops w (extent at n content target)
stretch_join w at n content target some whole =
    let m = w.streaming.meaning in
    let by = w.streaming.by in
    ap (flat_map (unit_ops m w.verify target)) (stretch_units_join m by at n content target some whole)
    ∙ flat_map-append (unit_ops m w.verify target) (stretch_units m by (extent 0 at content target)) (stretch_units m by (extent at n content target))

pub sound_join : (m : Parameters) (by : Strategy) (at n : ℕ) (content target : List ℕ) → IsFaultless m by (extent 0 at content target) → IsFaultless m by (extent at n content target)
    → IsFaultless m by (extent 0 (at + n) content target)
sound_join m by at n content target first second x from upto = elim (cases_lt x at) [
  | inl less ↦ first x from (omega (arith, less))
  | inr past ↦ second x past (omega (arith, upto))
]

-- two stretches
pub work_join : (w v : Writing) (at : ℕ) (xs ys txs tys : List ℕ) (p q : List Op) → 0 < w.streaming.meaning.page → at % w.streaming.meaning.page ≡ 0
    → length xs ≡ at → length txs ≡ at → v ≡ written_on w p → IsWork w (stretch 0 xs txs) p → IsWork v (stretch at ys tys) q
    → IsWork w (stretch 0 (xs ++ ys) (txs ++ tys)) (p ++ q)
work_join w v at xs ys txs tys p q some whole upto upto' state first second content target has has' =
    let left : IsWorkOf w (extent 0 at content target) p =
    subst (λ n. IsWorkOf w (extent 0 n content target) p) upto (first content target (part_left content xs ys has) (part_left target txs tys has')) in
    let right : IsWorkOf (written_on w p) (extent at (length ys) content target) q =
    subst (λ (u : Writing). IsWorkOf u (extent at (length ys) content target) q) state
    (second content target (part_right content xs ys at upto has) (part_right target txs tys at upto' has')) in
    let count : at + length ys ≡ length (xs ++ ys) = omega (arith, length-append xs ys, upto) in
    subst (λ n. IsWorkOf w (extent 0 n content target) (p ++ q)) count (record {
      are = stretch_join w at (length ys) content target some whole ∙ ap (λ ops. ops ++ stretch_ops w (extent at (length ys) content target)) left.are
          ∙ ap (λ ops. p ++ ops) right.are;
      sound = sound_join w.streaming.meaning w.streaming.by at (length ys) content target left.sound right.sound;
    })

lowest_join : (m : Parameters) (by : Strategy) (at n a : ℕ) (content target : List ℕ) → ((x : ℕ) → 0 ≤ x → x < 0 + at → is_at_fault m by content target x ≡ false)
    → IsLowestAt m by at content target n a → IsLowestAt m by 0 content target (at + n) a
lowest_join m by at n a content target sound is = record {
  from = omega arith;
  upto = omega (arith, is.upto);
  none_below = λ x from before. elim (cases_lt x at) [
    | inl less ↦ sound x from (omega (arith, less))
    | inr past ↦ is.none_below x past before
  ];
}

fault_of : (m : Parameters) (by : Strategy) (at n : ℕ) (content target : List ℕ) (why : PlanFault) → ((x : ℕ) → 0 ≤ x → x < 0 + at → is_at_fault m by content target x ≡ false)
    → IsFaultOf m by at content target n why → IsFaultOf m by 0 content target (at + n) why
fault_of m by at n content target (plan.NoErase a) sound is = (lowest_join m by at n a content target sound is.0, is.1)
fault_of m by at n content target (plan.Unreachable a) sound is = (lowest_join m by at n a content target sound is.0, is.1)
fault_of m by at n content target plan.Memory sound is = absurd is

-- the fault of a stretch, whatever the rest of the chip holds and must hold
abbrev IsFaultOfAll : Writing → ℕ → List ℕ → List ℕ → PlanFault → Type 0
IsFaultOfAll w at have want why =
    (content target : List ℕ) → HasPart content have at → HasPart target want at
    → IsFaultOf w.streaming.meaning w.streaming.by at content target (length have) why

fault_join_all : (w v : Writing) (at : ℕ) (xs ys txs tys : List ℕ) (p : List Op) (why : PlanFault) → length xs ≡ at → length txs ≡ at → v ≡ written_on w p
    → IsWork w (stretch 0 xs txs) p → IsFaultOfAll v at ys tys why → IsFaultOfAll w 0 (xs ++ ys) (txs ++ tys) why
fault_join_all w v at xs ys txs tys p why upto upto' state first second content target has has' =
    let m = w.streaming.meaning in
    let by = w.streaming.by in
    let left : IsWorkOf w (extent 0 at content target) p =
    subst (λ n. IsWorkOf w (extent 0 n content target) p) upto (first content target (part_left content xs ys has) (part_left target txs tys has')) in
    let right : IsFaultOf m by at content target (length ys) why =
    subst (λ (u : Writing). IsFaultOf u.streaming.meaning u.streaming.by at content target (length ys) why) state
    (second content target (part_right content xs ys at upto has) (part_right target txs tys at upto' has')) in
    let count : at + length ys ≡ length (xs ++ ys) = omega (arith, length-append xs ys, upto) in
    subst (λ n. IsFaultOf m by 0 content target n why) count (fault_of m by at (length ys) content target why left.sound right)

-- the lowest address at fault of a stretch is the lowest of all, where none before it is at fault
pub fault_join : (w v : Writing) (at : ℕ) (xs ys txs tys : List ℕ) (p : List Op) (why : PlanFault) → length xs ≡ at → length txs ≡ at → v ≡ written_on w p
    → IsWork w (stretch 0 xs txs) p → IsFault v.streaming.meaning v.streaming.by at ys tys why
    → IsFault w.streaming.meaning w.streaming.by 0 (xs ++ ys) (txs ++ tys) why
fault_join w v at xs ys txs tys p (plan.NoErase a) upto upto' state first second = fault_join_all w v at xs ys txs tys p (plan.NoErase a) upto upto' state first second
fault_join w v at xs ys txs tys p (plan.Unreachable a) upto upto' state first second = fault_join_all w v at xs ys txs tys p (plan.Unreachable a) upto upto' state first second
fault_join w v at xs ys txs tys p plan.Memory upto upto' state first second = absurd second

-- nothing
pub work_none : (w : Writing) → IsWork w (stretch 0 [] []) []
unfolding units_over
work_none w content target has has' =
    let m = w.streaming.meaning in
    let none : 0 / m.page ≡ 0 = zero-div m.page in
    record {
      are = ap (λ n. flat_map (unit_ops m w.verify target) (units_of m w.streaming.by content target (pages m.page 0 n))) none;
      sound = λ x from before. absurd (omega (arith, before));
    }
