-- How a chip is read is a way to read it.
use Rattle.std.proofs.Common.{◌≡◌, ◌≤◌, ◌⊎◌, inl, inr, ℕ, ◌^◌, Bool, true, false, not, ◌&&◌, ◌||◌, refl, ◌∙◌, arith, leb-true, List, ap, subst}
use Rattle.std.specs.Prelude.{if◌then◌else◌, nat_le}
use Rattle.nor_base.specs.declared.meaning.Start.{Start}
use Rattle.nor_base.specs.declared.meaning.Switch.{Switch}
use Rattle.nor_base.specs.Chip.{begins4}
use Rattle.nor_base.specs.Instructions.{is_there}
use Rattle.nor_base.specs.Parameters.{Parameters}
use Rattle.nor_loop.specs.Laws.{IsReadable}
use Rattle.nor_reader.specs.declared.by.ReadBy.{ReadBy}
use Rattle.nor_reader.specs.declared.by.ReadBy.TheVariants.{Content, FourBytes, Entered}
use Rattle.nor_reader.specs.Cut.{ReadApart}
use Rattle.nor_reader.specs.Laws.{GivesBy}
use Rattle.nor_loop.specs.Reads.{chunk, Chunk}
use Rattle.nor_reader.specs.Telling.{ApartKnows, FitsFour, GivesSaid, KnowsMode, ShowsMode, SureKnows}
use Rattle.nor_base.specs.Wire.{Wire}
use Rattle.norprog_read.specs.Way.{first_by, first_of, has_both, is_near, is_readable, is_small, may_enter, second_by, second_of, twice_of, IsShownBy, Way}

choose : (P : ReadBy → Type 0) (b : Bool) (x y : ReadBy) → (b ≡ true → P x) → (b ≡ false → P y) → P (if b then x else y)
choose P true x y p q = p refl
choose P false x y p q = q refl

or_cases : (a b : Bool) → a || b ≡ true → (a ≡ true) ⊎ (b ≡ true)
or_cases true b is = inl refl
or_cases false b is = inr is

pub or_right : (a b : Bool) → a || b ≡ true → a ≡ false → b ≡ true
or_right true b p q = cc
or_right false b p q = p

pub and_both : (a b : Bool) → a && b ≡ true → (a ≡ true) × (b ≡ true)
and_both true b is = (refl, is)
and_both false b is = cc

pub not_so : (a : Bool) → not a ≡ true → a ≡ false
not_so true is = cc
not_so false is = refl

small_fits : (size : ℕ) → nat_le size (2 ^ 24) ≡ true → size ≤ 2 ^ 24
small_fits size is = leb-true size (2 ^ 24) is

near_reads : (m : Parameters) (start : Start) → is_near m start ≡ true → IsReadable m start
near_reads m start is = elim (or_cases (is_small m) (begins4 m start || m.read4) is) [
  | inl small ↦ inl (small_fits m.size small)
  | inr other ↦ inr (or_cases (begins4 m start) m.read4 other)
]

entered_gives : (m : Parameters) (start : Start) → may_enter m start ≡ true → GivesBy m start (Entered m.enter m.leave)
entered_gives m start is =
    let p = and_both (not (begins4 m start)) (is_there m.enter && is_there m.leave) is in
    let q = and_both (is_there m.enter) (is_there m.leave) p.1 in
    (refl, refl, q.0, q.1, not_so (begins4 m start) p.0)

pub first_gives : (m : Parameters) (start : Start) → is_readable m start ≡ true → GivesBy m start (first_by m start)
first_gives m start readable =
    choose (GivesBy m start) (is_near m start) (Content (begins4 m start)) (Entered m.enter m.leave) (λ p. (refl, near_reads m start p))
    (λ q. entered_gives m start (or_right (is_near m start) (may_enter m start) readable q))

pub second_gives : (m : Parameters) (start : Start) (sure : Bool) → is_readable m start ≡ true → GivesBy m start (second_by m start sure)
second_gives m start sure readable =
    let first = first_gives m start readable in
    let late = if may_enter m start then Entered m.enter m.leave else first_by m start in
    choose (GivesBy m start) (not sure || (is_small m && not (has_both m.width))) (first_by m start) (if m.read4 then FourBytes else late) (λ p. first)
    (λ q. choose (GivesBy m start) m.read4 FourBytes late (λ p. p)
    (λ q. choose (GivesBy m start) (may_enter m start) (Entered m.enter m.leave) (first_by m start) (λ p. entered_gives m start p) (λ q. first)))

-- the first reading gives the content to a chip in the mode that is said
said_way : (near may mode4 : Bool) (enter leave : Switch) → near || may ≡ true → (may ≡ true → is_there enter ≡ true)
    → GivesSaid (if near then Content mode4 else Entered enter leave) mode4
said_way true may mode4 enter leave readable there = refl
said_way false may mode4 enter leave readable there = there readable

first_said : (m : Parameters) (start : Start) → is_readable m start ≡ true → GivesSaid (first_by m start) (begins4 m start)
first_said m start readable =
    said_way (is_near m start) (may_enter m start) (begins4 m start) m.enter m.leave readable
    (λ may. (and_both (is_there m.enter) (is_there m.leave) (and_both (not (begins4 m start)) (is_there m.enter && is_there m.leave) may).1).0)

-- what shows the mode came by its address bytes
shown_near : (near mode4 : Bool) (enter leave : Switch) (most : ℕ) (content : List ℕ)
    → IsShownBy (if near then Content mode4 else Entered enter leave) most content → (near ≡ true) × ShowsMode mode4 most content
shown_near true mode4 enter leave most content shows = (refl, shows)
shown_near false mode4 enter leave most content shows = absurd shows

-- so each chip that gave the content was in that mode, and has it
pub mode_known : ApartKnows → SureKnows → (w : Way) (u v : Wire) (c : Chunk) → FitsFour c → is_readable w.m w.start ≡ true
    → (w.sure ≡ false → (content : List ℕ) × (c ≡ chunk 0 content) × IsShownBy (first_of w) w.most content) → ReadApart (twice_of w) u v c
    → KnowsMode u v w.sure (begins4 w.m w.start) c
mode_known apart sure_ w u v c fits readable shown read = by w.sure refl
  where
    by : (sure : Bool) → w.sure ≡ sure → KnowsMode u v w.sure (begins4 w.m w.start) c
    by true is =
        rw is (sure_ (twice_of w) u.held v.held u.ahead v.ahead (begins4 w.m w.start) c fits (first_said w.m w.start readable) read)
    by false is =
        let all = shown is in
        let near = shown_near (is_near w.m w.start) (begins4 w.m w.start) w.m.enter w.m.leave w.most all.0 all.2 in
        let first : first_of w ≡ Content (begins4 w.m w.start) =
        ap (λ (n : Bool). if n then Content (begins4 w.m w.start) else Entered w.m.enter w.m.leave) near.0 in
        let second : second_of w ≡ Content (begins4 w.m w.start) = ap (second_by w.m w.start) is ∙ first in
        let fits_all = subst FitsFour all.1 fits in
        rw is (rw all.1 (apart w.most u.held v.held u.ahead v.ahead (begins4 w.m w.start) all.0 (omega (arith, fits_all)) near.1
        (rw first at (rw second at (rw all.1 at read)))))
