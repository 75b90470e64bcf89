-- Which pages outside the erased blocks are units.
use Rattle.std.proofs.Common.{◌≡◌, ℕ, zero, suc, ◌+◌, ◌<◌, ◌≤◌, ◌==◌, Bool, true, false, cond, not, ◌&&◌, ◌||◌, if◌then◌else◌, List, [], ◌∷◌, ◌++◌, length, map, None, refl, sym, ◌∙◌, ap, arith}
use Rattle.std.specs.Prelude.{is_some, filter, flat_map, slice_index, bit_and}
use Rattle.std.specs.List.{list_any, range_with_len, slice_split, onto_first}
use Rattle.std.proofs.lemmas.Bool.{both_ways}
use Rattle.nor_base.specs.Parameters.{Parameters}
use Rattle.nor_base.specs.declared.meaning.Strategy.{Strategy}
use Rattle.nor_base.specs.Need.{differs, is_due, erased_at, levelled}
use Rattle.nor_base.specs.Programs.{Program, span, is_closed, page_programs}
use Rattle.nor_base.specs.Units.{page_unit}
use Rattle.nor_base.proofs.ArrayLaws.{slice_index-each}
use Rattle.nor_geometry.specs.declared.unit.PlanUnit.{PlanUnit}
use Rattle.nor_geometry.specs.declared.unit.PlanUnit.TheVariants as unit
use Rattle.nor_geometry.specs.Plan.{plan_unit}

abbrev has : List Program → Bool
has [] = false
has (p ∷ ps) = true

abbrev programs_of : (ℕ → Bool) → List ℕ → List (List ℕ) → List Program
programs_of test want parts = flat_map (λ part. span want (filter test part)) parts

has_span : (want part : List ℕ) (test : ℕ → Bool) (a : ℕ) (b : Bool) (rest : List Program) → test a ≡ b
    → has (span want (cond b (a ∷ filter test part) (filter test part)) ++ rest) ≡ b || has (span want (filter test part) ++ rest)
has_span want part test a true rest is = refl
has_span want part test a false rest is = refl

has_onto : (want : List ℕ) (test : ℕ → Bool) (a : ℕ) (parts : List (List ℕ)) (b : Bool) → test a ≡ b
    → has (programs_of test want (onto_first a parts)) ≡ b || has (programs_of test want parts)
has_onto want test a [] true is = rw is refl
has_onto want test a [] false is = rw is refl
has_onto want test a (part ∷ parts) b is = rw is (has_span want part test a b (programs_of test want parts) is)

has_step : (want : List ℕ) (test closed : ℕ → Bool) (a : ℕ) (parts : List (List ℕ)) (c : Bool) → closed a ≡ c → (test a ≡ true → closed a ≡ false)
    → has (programs_of test want (cond c ([] ∷ parts) (onto_first a parts))) ≡ test a || has (programs_of test want parts)
has_step want test closed a parts true is opened = by_test (test a) refl
  where
    by_test : (b : Bool) → test a ≡ b → has (programs_of test want parts) ≡ test a || has (programs_of test want parts)
    by_test true h = absurd (both_ways (closed a) (opened h) is)
    by_test false h = rw h refl
has_step want test closed a parts false is opened = has_onto want test a parts (test a) refl

has_parts : (want : List ℕ) (test closed : ℕ → Bool) (n a : ℕ) → ((x : ℕ) → a ≤ x → x < a + n → test x ≡ true → closed x ≡ false)
    → has (programs_of test want (slice_split closed (range_with_len a n))) ≡ list_any test (range_with_len a n)
has_parts want test closed zero a opened = refl
has_parts want test closed (suc n) a opened =
    has_step want test closed a (slice_split closed (range_with_len (a + 1) n)) (closed a) refl (opened a (omega arith) (omega arith))
    ∙ ap (λ b. test a || b) (has_parts want test closed n (a + 1) (λ x from upto. opened x (omega arith) (omega arith)))

abbrev may_by : Bool → ℕ → ℕ → Bool
may_by erased_only old byte = if erased_only then old == 255 else bit_and old byte == byte

-- a byte that differs and isn't due isn't closed
open_byte : (erased_only : Bool) (old byte : ℕ) → not (old == byte) && not (may_by erased_only old byte) ≡ false → not (old == byte) ≡ true → erased_only && not (old == 255) ≡ false
open_byte false old byte due apart = refl
open_byte true old byte due apart = by_full (old == 255) (not (old == byte)) due apart
  where
    by_full : (full apart : Bool) → apart && not full ≡ false → apart ≡ true → not full ≡ false
    by_full true apart h is = refl
    by_full false true h is = h
    by_full false false h is = cc

pub same_any : (f g : ℕ → Bool) (n a b : ℕ) → ((i : ℕ) → i < n → f (a + i) ≡ g (b + i)) → list_any f (range_with_len a n) ≡ list_any g (range_with_len b n)
same_any f g zero a b same = refl
same_any f g (suc n) a b same =
    let zero_a : a + 0 ≡ a = omega arith in
    let zero_b : b + 0 ≡ b = omega arith in
    let first : f a ≡ g b = ap f (sym zero_a) ∙ same 0 (omega arith) ∙ ap g zero_b in
    ap (λ x. x || list_any f (range_with_len (a + 1) n)) first
    ∙ ap (λ x. g b || x) (same_any f g n (a + 1) (b + 1) (λ i inside.
    let next_a : a + 1 + i ≡ a + suc i = omega arith in
    let next_b : b + 1 + i ≡ b + suc i = omega arith in
    ap f next_a ∙ same (suc i) (omega arith) ∙ ap g (sym next_b)))

abbrev pub unit_if : Bool → ℕ → List PlanUnit
unit_if b start = if b then unit.Page start ∷ [] else []

unit_of : (m : Parameters) (start : ℕ) (ps : List Program) → map plan_unit (page_unit m start ps) ≡ unit_if (has ps) start
unit_of m start [] = refl
unit_of m start (p ∷ ps) = refl

-- outside the erased blocks the content stays as it is
kept_byte : (m : Parameters) (by : Strategy) (due : ℕ → Bool) (have : List ℕ) (x : ℕ) → x < length have → erased_at m by due x ≡ None
    → slice_index (levelled m by due have) x ≡ slice_index have x
unfolding levelled
kept_byte m by due have x inside none =
    slice_index-each (λ a old. if is_some (erased_at m by due a) then 255 else old) have x inside
    ∙ ap (λ o. if is_some o then 255 else slice_index have x) none

-- a page in which nothing is erased and nothing is due is a unit where some byte differs
pub page_alone : (m : Parameters) (by : Strategy) (due : ℕ → Bool) (have want : List ℕ) (start : ℕ) → start + m.page ≤ length have
    → ((x : ℕ) → start ≤ x → x < start + m.page → erased_at m by due x ≡ None)
    → ((x : ℕ) → start ≤ x → x < start + m.page → is_due m have want x ≡ false)
    → map plan_unit (page_unit m start (page_programs m (levelled m by due have) want start)) ≡ unit_if (list_any (differs have want) (range_with_len start m.page)) start
unfolding page_programs
page_alone m by due have want start inside none quiet =
    unit_of m start (page_programs m (levelled m by due have) want start)
    ∙ ap (λ b. unit_if b start) (has_parts want (differs (levelled m by due have) want) (is_closed m (levelled m by due have)) m.page start (opened) ∙ same)
  where
    kept : (x : ℕ) → start ≤ x → x < start + m.page → slice_index (levelled m by due have) x ≡ slice_index have x
    kept x from upto = kept_byte m by due have x (omega arith) (none x from upto)

    opened : (x : ℕ) → start ≤ x → x < start + m.page → differs (levelled m by due have) want x ≡ true → is_closed m (levelled m by due have) x ≡ false
    opened x from upto apart =
        ap (λ n. m.erased_only && not (n == 255)) (kept x from upto)
        ∙ open_byte m.erased_only (slice_index have x) (slice_index want x) (quiet x from upto) (ap (λ n. not (n == slice_index want x)) (sym (kept x from upto)) ∙ apart)

    same : list_any (differs (levelled m by due have) want) (range_with_len start m.page) ≡ list_any (differs have want) (range_with_len start m.page)
    same = same_any (differs (levelled m by due have) want) (differs have want) m.page start start (λ i less. ap (λ n. not (n == slice_index want (start + i))) (kept (start + i) (omega arith) (omega arith)))
