-- The units that start in a window lie in it, and are made of its bytes.
use Rattle.std.proofs.Common.{◌≡◌, ◌⊎◌, ℕ, zero, suc, ◌+◌, ◌*◌, ◌/◌, ◌%◌, ◌^◌, ◌<◌, ◌≤◌, ◌==◌, Bool, true, false, if◌then◌else◌, List, [], ◌∷◌, length, Option, Some, None, refl, sym, ◌∙◌, ap, arith, inl, inr, eqb-true, length-append}
use Rattle.std.specs.Prelude.{is_some, flat_map}
use Rattle.std.specs.List.{slice_index, AllByRecursion}
use Rattle.std.proofs.Math.Nat.{add-mod_right, zero-mod, div-add-mod', mod-add-mod}
use Rattle.std.proofs.Math.Pow.{pow_mono}
use Rattle.nor_base.specs.declared.meaning.Strategy.{Strategy}
use Rattle.nor_base.specs.Accepted.{IsAccepted}
use Rattle.nor_base.specs.Blocks.{Block}
use Rattle.nor_base.specs.Need.{is_due, erased_at, levelled}
use Rattle.nor_base.specs.Parameters.{Parameters}
use Rattle.nor_base.specs.Programs.{Program, page_programs}
use Rattle.nor_base.specs.Units.{WorkUnit, pages, page_unit, block_unit, unit_by, units_over, units_of}
use Rattle.nor_base.proofs.ArrayLaws.{slice_index-each, length-each}
use Rattle.nor_geometry.specs.Window.{IsWindowSize}
use Rattle.nor_geometry.proofs.WindowLemmas.{steps, window_power, blocks_uncrossed}
use Rattle.nor_geometry.proofs.PageLemmas.{starts_page, ends_page}
use Rattle.nor_geometry.specs.declared.unit.PlanUnit.{PlanUnit}
use Rattle.nor_geometry.specs.declared.unit.PlanUnit.TheVariants as unit
use Rattle.nor_geometry.specs.Plan.{IsWindow, plan_unit}
use Rattle.nor_pages.specs.Runs.{IsUnit, IsBlank, unit_start}
use Rattle.nor_plan_laws.proofs.Erased.Erasing.{erased_for}
use Rattle.nor_plan_laws.proofs.Units.Ranges.{aligned_le}
use Rattle.nor_plan_laws.proofs.Units.Wider.{some_page}
use Rattle.nor_plan_laws.specs.Least.{ErasesBlocks}
use Rattle.nor_steps.specs.Units.{unit_size, work_unit}
use Rattle.nor_base.proofs.ListLaws.{all_append}

-- where a unit lies
pub record LiesIn (m : Parameters) (at count : ℕ) (p : PlanUnit) : Type 0 where
  pub stretch : IsUnit m p (unit_size m.page p)
  pub low : at ≤ unit_start p
  pub high : unit_start p + unit_size m.page p ≤ at + count
  pub few : unit_size m.page p ≤ 2 ^ 24

-- what the levelled content is there
abbrev pub IsLevel : Parameters → List ℕ → List ℕ → PlanUnit → Type 0
IsLevel m content level (unit.Block b) = IsBlank level b.start b.size
IsLevel m content level (unit.Page start) = (x : ℕ) → start ≤ x → x < start + m.page → slice_index level x ≡ slice_index content x

pub record IsPlaced (m : Parameters) (content level target : List ℕ) (at count : ℕ) (u : WorkUnit) : Type 0 where
  pub lies : LiesIn m at count (plan_unit u)
  pub level_there : IsLevel m content level (plan_unit u)
  pub made : u ≡ work_unit m level target (plan_unit u)

-- a window, in numbers
pub record IsStretch (m : Parameters) (at count size : ℕ) : Type 0 where
  pub accepted : IsAccepted m
  pub some_page : 0 < m.page
  pub its_size : IsWindowSize m size
  pub border : (at + size) % size ≡ 0
  pub inside : at + count ≤ m.size
  pub fits : count ≤ size
  pub ends : (count ≡ size) ⊎ (at + count ≡ m.size)
  pub small : size ≤ 2 ^ 24
  pub from_aligned : at % m.page ≡ 0
  pub aligned : (at + count) % m.page ≡ 0
  pub whole : count % m.page ≡ 0

-- the levelled content
abbrev pub level_of : Parameters → Strategy → List ℕ → List ℕ → List ℕ
level_of m by content target = levelled m by (is_due m content target) content

abbrev pub erased_of : Parameters → Strategy → List ℕ → List ℕ → ℕ → Option Block
erased_of m by content target = erased_at m by (is_due m content target)

level_at : (m : Parameters) (by : Strategy) (content target : List ℕ) (x : ℕ) (o : Option Block) → x < length content → erased_of m by content target x ≡ o
    → slice_index (level_of m by content target) x ≡ (if is_some o then 255 else slice_index content x)
unfolding levelled
level_at m by content target x o inside is =
    slice_index-each _ content x inside ∙ ap (λ e. if is_some e then 255 else slice_index content x) is

pub length-level : (m : Parameters) (by : Strategy) (content target : List ℕ) → length (level_of m by content target) ≡ length content
unfolding levelled
length-level m by content target = length-each _ content

block_placed : (m : Parameters) (by : Strategy) (content target : List ℕ) (at count size start : ℕ) (b : Block) (t : Bool) → ErasesBlocks → IsStretch m at count size
    → at + count ≤ length content → erased_of m by content target start ≡ Some b → at ≤ start → start < at + count → (b.start == start) ≡ t
    → AllByRecursion (IsPlaced m content (level_of m by content target) target at count) (if t then block_unit m (level_of m by content target) target b ∷ [] else [])
block_placed m by content target at count size start b false law s long is from upto same = tt
block_placed m by content target at count size start b true law s long is from upto same =
    let e = erased_for m by (is_due m content target) start b s.accepted is in
    let here : b.start ≡ start = eqb-true b.start start same in
    let legal = (law m by (is_due m content target) start b s.accepted is).legal in
    let crossed : b.start + b.size ≤ at + size = blocks_uncrossed m size (at + size) b s.accepted s.its_size s.border legal (omega (arith, here, upto, s.fits)) in
    let fits : b.start + b.size ≤ at + count = elim s.ends [
      | inl all ↦ omega (arith, all, crossed)
      | inr last ↦ omega (arith, last, e.inside)
    ] in
    let blank : IsBlank (level_of m by content target) b.start b.size =
    λ x low high. level_at m by content target x (Some b) (omega (arith, high, fits, long)) (e.all x low high) in (
      record {
        lies = record {
          stretch = (refl, (e.whole, e.inside));
          low = omega (arith, here, from);
          high = fits;
          few = omega (arith, fits, here, from, s.fits, s.small);
        };
        level_there = blank;
        made = refl;
      },
      tt,
    )

-- where a page's start isn't erased, nothing of the page is
none_there : (m : Parameters) (by : Strategy) (content target : List ℕ) (start x : ℕ) (o : Option Block) → IsAccepted m → 0 < m.page
    → start % m.page ≡ 0 → erased_of m by content target start ≡ None → start ≤ x → x < start + m.page → erased_of m by content target x ≡ o
    → erased_of m by content target x ≡ None
none_there m by content target start x None accepted some whole none from upto is = is
none_there m by content target start x (Some c) accepted some whole none from upto is =
    let e = erased_for m by (is_due m content target) x c accepted is in
    let before : c.start ≤ start = aligned_le c.start start m.page some e.aligned whole (omega (arith, e.low, upto)) in
    let both : Some c ≡ None = sym (e.all start before (omega (arith, e.high, from))) ∙ none in
    cc

page_placed : (m : Parameters) (by : Strategy) (content target : List ℕ) (at count size start : ℕ) (ps : List Program) → IsStretch m at count size
    → at + count ≤ length content → erased_of m by content target start ≡ None → at ≤ start → start < at + count → start % m.page ≡ 0
    → page_programs m (level_of m by content target) target start ≡ ps
    → AllByRecursion (IsPlaced m content (level_of m by content target) target at count) (page_unit m start ps)
page_placed m by content target at count size start [] s long is from upto whole are = tt
page_placed m by content target at count size start (p ∷ ps) s long is from upto whole are =
    let fits : start + m.page ≤ at + count = steps m.page start (at + count) whole s.aligned upto in (
      record {
        lies = record {
          stretch = (refl, (ap (λ n. n % m.page) none_more ∙ self_mod, omega (arith, fits, s.inside)));
          low = from;
          high = fits;
          few = omega (arith, fits, from, s.fits, s.small);
        };
        level_there = λ x low high. level_at m by content target x None (omega (arith, high, fits, long))
            (none_there m by content target start x (erased_of m by content target x) s.accepted s.some_page whole is low high refl);
        made = ap (λ programs. unit_with programs) (sym are);
      },
      tt,
    )
  where
    unit_with : List Program → WorkUnit
    unit_with programs = record { erase = None; start = start; size = m.page; programs = programs }

    none_more : m.page ≡ 0 + m.page
    none_more = omega arith

    self_mod : (0 + m.page) % m.page ≡ 0
    self_mod = add-mod_right 0 m.page ∙ zero-mod m.page

unit_placed : (m : Parameters) (by : Strategy) (content target : List ℕ) (at count size start : ℕ) (o : Option Block) → ErasesBlocks → IsStretch m at count size
    → at + count ≤ length content → erased_of m by content target start ≡ o → at ≤ start → start < at + count → start % m.page ≡ 0
    → AllByRecursion (IsPlaced m content (level_of m by content target) target at count) (unit_by m (level_of m by content target) target start o)
unit_placed m by content target at count size start (Some b) law s long is from upto whole =
    block_placed m by content target at count size start b (b.start == start) law s long is from upto refl
unit_placed m by content target at count size start None law s long is from upto whole =
    page_placed m by content target at count size start (page_programs m (level_of m by content target) target start) s long is from upto whole refl

over_placed : (m : Parameters) (by : Strategy) (content target : List ℕ) (at count size : ℕ) → ErasesBlocks → IsStretch m at count size → at + count ≤ length content
    → (n start : ℕ) → at ≤ start → start % m.page ≡ 0 → start + n * m.page ≤ at + count
    → AllByRecursion (IsPlaced m content (level_of m by content target) target at count)
    (flat_map (λ first. unit_by m (level_of m by content target) target first (erased_of m by content target first)) (pages m.page start n))
over_placed m by content target at count size law s long zero start from whole upto = tt
over_placed m by content target at count size law s long (suc n) start from whole upto =
    let some = s.some_page in
    let more : suc n * m.page ≡ n * m.page + m.page = omega arith in
    all_append (IsPlaced m content (level_of m by content target) target at count) (unit_by m (level_of m by content target) target start (erased_of m by content target start)) _
    (unit_placed m by content target at count size start (erased_of m by content target start) law s long refl from (omega (arith, upto, more, some)) whole)
    (over_placed m by content target at count size law s long n (start + m.page) (omega (arith, from)) (add-mod_right start m.page ∙ whole) (omega (arith, upto, more)))

-- each unit of a window
pub units_placed : (m : Parameters) (by : Strategy) (content target : List ℕ) (at count size : ℕ) → ErasesBlocks → IsStretch m at count size → at + count ≤ length content
    → AllByRecursion (IsPlaced m content (level_of m by content target) target at count) (units_of m by content target (pages m.page at (count / m.page)))
unfolding units_over
units_placed m by content target at count size law s long =
    let all : count / m.page * m.page + count % m.page ≡ count = div-add-mod' count m.page in
    over_placed m by content target at count size law s long (count / m.page) at (omega arith) s.from_aligned (omega (arith, all))

-- they are no more than its pages
few_block : (m : Parameters) (level target : List ℕ) (b : Block) (t : Bool) → length (if t then block_unit m level target b ∷ [] else []) ≤ 1
few_block m level target b true = omega arith
few_block m level target b false = omega arith

few_page : (m : Parameters) (start : ℕ) (ps : List Program) → length (page_unit m start ps) ≤ 1
few_page m start [] = omega arith
few_page m start (p ∷ ps) = omega arith

few_unit : (m : Parameters) (level target : List ℕ) (start : ℕ) (o : Option Block) → length (unit_by m level target start o) ≤ 1
few_unit m level target start (Some b) = few_block m level target b (b.start == start)
few_unit m level target start None = few_page m start (page_programs m level target start)

few_over : (m : Parameters) (level target : List ℕ) (erased : ℕ → Option Block) (n start : ℕ)
    → length (flat_map (λ first. unit_by m level target first (erased first)) (pages m.page start n)) ≤ n
few_over m level target erased zero start = omega arith
few_over m level target erased (suc n) start =
    let first = few_unit m level target start (erased start) in
    let rest = few_over m level target erased n (start + m.page) in
    omega (arith, first, rest, length-append (unit_by m level target start (erased start)) (flat_map (λ x. unit_by m level target x (erased x)) (pages m.page (start + m.page) n)))

pub few_units : (m : Parameters) (by : Strategy) (content target : List ℕ) (at n : ℕ) → length (units_of m by content target (pages m.page at n)) ≤ n
unfolding units_over
few_units m by content target at n = few_over m (level_of m by content target) target (erased_of m by content target) n at

-- a window's numbers
difference : (a b n : ℕ) → a % n ≡ 0 → (a + b) % n ≡ 0 → b % n ≡ 0
difference a b n first both =
    let none : b ≡ 0 + b = omega arith in
    ap (λ x. x % n) none ∙ ap (λ x. (x + b) % n) (sym first) ∙ mod-add-mod a n b ∙ both

pub window_stretch : (m : Parameters) (by : Strategy) (at count : ℕ) → IsAccepted m → (w : IsWindow m by at count) → IsStretch m at count w.size
window_stretch m by at count accepted w =
    let power = window_power m w.size accepted w.its_size in
    let most : 2 ^ power.exponent ≤ 2 ^ 24 = pow_mono power.at_most in
    let from = starts_page m by at count accepted w in
    let upto = ends_page m by at count accepted w in
    record {
      accepted = accepted;
      some_page = some_page m accepted;
      its_size = w.its_size;
      border = add-mod_right at w.size ∙ w.whole;
      inside = w.inside;
      fits = elim w.ends [ inl all ↦ omega (arith, all) | inr last ↦ last.0 ];
      ends = elim w.ends [ inl all ↦ inl all | inr last ↦ inr last.1 ];
      small = omega (arith, power.value, most);
      from_aligned = from;
      aligned = upto;
      whole = difference at count m.page from upto;
    }
