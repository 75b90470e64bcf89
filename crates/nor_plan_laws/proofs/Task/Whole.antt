-- The planned work does the task on every chip, with at most one unit in the making.
use Rattle.std.proofs.Common.{◌≡◌, ℕ, ◌+◌, ◌*◌, ◌/◌, ◌%◌, ◌<◌, Bool, true, if◌then◌else◌, List, length, refl, sym, ◌∙◌, subst, arith, inl}
use Rattle.std.specs.Prelude.{is_some}
use Rattle.std.specs.List.{slice_index}
use Rattle.std.proofs.Math.Nat.{div-add-mod'}
use Rattle.std.proofs.lemmas.List.{get_or_past}
use Rattle.nor_base.specs.declared.meaning.Start.{Start}
use Rattle.nor_base.specs.declared.step.Step.{Step}
use Rattle.nor_base.specs.Parameters.{Parameters}
use Rattle.nor_base.specs.Chip.{Setting, IsChipOf, may_page}
use Rattle.nor_base.specs.Strategies.{strategy}
use Rattle.nor_base.specs.Need.{is_due, erased_at, levelled}
use Rattle.nor_base.specs.Units.{WorkUnit, units}
use Rattle.nor_base.specs.Planned.{planned_units, planned_ops, ArePlanned, IsInTheMaking, IsWorkable}
use Rattle.nor_base.proofs.ArrayLaws.{slice_index-each}
use Rattle.nor_plan_laws.proofs.Task.Lowered.{Works, lowered_works}
use Rattle.nor_plan_laws.proofs.Task.Made.{AreSoundUnits, units_lead}
use Rattle.nor_plan_laws.proofs.Units.Walk.{IsSetting, EndsAt, ends_at, all_sound}
use Rattle.nor_plan_laws.proofs.Erased.Erasing.{erased_for}
use Rattle.nor_plan_laws.proofs.Erased.Reached.{erased_where_due}
use Rattle.nor_plan_laws.proofs.Units.Wider.{some_page, in_chip_page, whole_chip}

pub level_at : (m : Parameters) (start : Start) (have want : List ℕ) (x : ℕ) → x < length have
    → slice_index (levelled m (strategy m start) (is_due m have want) have) x
    ≡ (if is_some (erased_at m (strategy m start) (is_due m have want) x) then 255 else slice_index have x)
unfolding levelled
level_at m start have want x inside = slice_index-each _ have x inside

pub setting_of : (m : Parameters) (start : Start) (page : ℕ) (have want : List ℕ) → IsWorkable m start have want → may_page m page ≡ true
    → IsSetting m page (levelled m (strategy m start) (is_due m have want) have) have want (erased_at m (strategy m start) (is_due m have want))
setting_of m start page have want w may = record {
  some_page = some_page m w.accepted;
  size = w.want_size;
  bytes = w.bytes;
  erasing = record {
    block = λ a b is. erased_for m (strategy m start) (is_due m have want) a b w.accepted is;
    due = λ a inside due. erased_where_due m start have want a w.accepted inside (w.sound a inside) due;
  };
  level_at = λ x inside. level_at m start have want x (omega (arith, w.have_size, inside));
  one_page = λ first whole. in_chip_page m page first w.accepted may whole;
}

pub all_pages : (m : Parameters) (start : Start) (have want : List ℕ) → IsWorkable m start have want → EndsAt m.page 0 (m.size / m.page) m.size
all_pages m start have want w =
    let all : m.size / m.page * m.page + m.size % m.page ≡ m.size = div-add-mod' m.size m.page in
    ends_at m.page (m.size / m.page) 0 m.size (omega (arith, all, whole_chip m w.accepted))

pub units_sound : (m : Parameters) (start : Start) (page : ℕ) (have want : List ℕ) → IsWorkable m start have want → may_page m page ≡ true
    → AreSoundUnits m page (levelled m (strategy m start) (is_due m have want) have) have want 0 (planned_units m start have want)
unfolding units
units_sound m start page have want w may =
    all_sound m page (levelled m (strategy m start) (is_due m have want) have) have want (erased_at m (strategy m start) (is_due m have want)) (m.size / m.page)
    (setting_of m start page have want w may) (all_pages m start have want w)

-- the content and the target are the work's first and last arrays
first_making : (us : List WorkUnit) (have want : List ℕ) → IsInTheMaking us have want have
first_making us have want = record { low = 0; high = 0; below = λ x before. absurd (omega arith); above = λ x past. refl; between = inl refl }

last_making : (us : List WorkUnit) (have want : List ℕ) → length have ≡ length want → IsInTheMaking us have want want
last_making us have want lengths = record {
  low = length want;
  high = length want;
  below = λ x before. refl;
  above = λ x past. get_or_past want x 0 past ∙ sym (get_or_past have x 0 (omega (arith, lengths)));
  between = inl refl;
}

works_on : (s : Setting) (verify : Bool) (have want : List ℕ) (steps : List Step) → IsWorkable s.meaning s.start have want → may_page s.meaning s.page ≡ true
    → ArePlanned s.meaning s.start verify have want steps → Works (IsInTheMaking (planned_units s.meaning s.start have want) have want) s have want steps
works_on s verify have want steps w may are =
    let us = planned_units s.meaning s.start have want in
    let lengths : length have ≡ length want = w.have_size ∙ sym w.want_size in
    lowered_works (IsInTheMaking us have want) s have want (planned_ops s.meaning s.start verify have want) steps (first_making us have want)
    (last_making us have want lengths)
    (units_lead s.meaning s.page (levelled s.meaning (strategy s.meaning s.start) (is_due s.meaning have want) have) have want verify (some_page s.meaning w.accepted) w.want_size
    lengths w.bytes us us (λ low high is. is) 0 have (units_sound s.meaning s.start s.page have want w may)
    (record { size = lengths; below = λ x before. absurd (omega arith); within = λ x from before. absurd (omega arith); above = λ x past. refl }))
    are

-- what is so of a chip's own meaning and start is so of the meaning and start that it is a chip of
pub planned_works : (m : Parameters) (start : Start) (verify : Bool) (have want : List ℕ) (steps : List Step) → IsWorkable m start have want
    → ArePlanned m start verify have want steps → (s : Setting) → IsChipOf m start s → Works (IsInTheMaking (planned_units m start have want) have want) s have want steps
planned_works m start verify have want steps w are s is =
    subst (λ (b : Start). Works (IsInTheMaking (planned_units m b have want) have want) s have want steps) is.its_start
    (subst (λ (a : Parameters). Works (IsInTheMaking (planned_units a s.start have want) have want) s have want steps) is.its_meaning
    (works_on s verify have want steps
    (subst (λ (b : Start). IsWorkable s.meaning b have want) (sym is.its_start) (subst (λ (a : Parameters). IsWorkable a start have want) (sym is.its_meaning) w))
    (subst (λ (a : Parameters). may_page a s.page ≡ true) (sym is.its_meaning) is.its_page)
    (subst (λ (b : Start). ArePlanned s.meaning b verify have want steps) (sym is.its_start)
    (subst (λ (a : Parameters). ArePlanned a start verify have want steps) (sym is.its_meaning) are))))
