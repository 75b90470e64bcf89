-- The statements of a meaning, one after another, mean it.
use Rattle.std.proofs.Common.{◌≡◌, ◌≢◌, ℕ, suc, ◌+◌, ◌<◌, ◌≤◌, ◌^◌, ◌==◌, nat_le, Bool, true, false, not, ◌&&◌, ◌||◌, List, [], ◌∷◌, ◌++◌, length, map, Option, Some, None, Ok, Err, refl, sym, ap, subst, arith, append-nil}
use Rattle.std.specs.Prelude.{IfSome, IsSome, is_some, option_and_then, slice_get, sum_by, if◌then◌else◌}
use Rattle.std.specs.List.{list_any, AllByRecursion}
use Rattle.std.proofs.lemmas.Bool.{eq-eqb, le-ltb, lt-leb}
use Rattle.std.proofs.lemmas.List.{append_assoc, length_push}
use Rattle.std.proofs.lemmas.List.Sums.{sum_by-cons}
use Rattle.nor_base.proofs.ListLaws.{all_append}
use Rattle.nor_base.specs.declared.meaning.Width.{Width}
use Rattle.nor_base.specs.declared.meaning.Width.TheVariants.{Both}
use Rattle.nor_base.specs.declared.meaning.Switch.{Switch}
use Rattle.nor_base.specs.declared.meaning.Switch.TheVariants.{Absent, Plain, Latched}
use Rattle.nor_base.specs.declared.meaning.Erase.{Erase}
use Rattle.nor_base.specs.declared.meaning.Region.{Region}
use Rattle.nor_base.specs.declared.meaning.QuadRead.{QuadRead}
use Rattle.nor_base.specs.Parameters.{Parameters, erase_kind}
use Rattle.nor_base.specs.Instructions.{is_there, offered_opcodes, own_rows}
use Rattle.nor_base.specs.Accepted.{IsAccepted, IsEraseKind, IsRegion, are_distinct, fixed_opcodes}
use Rattle.nor_sheet.specs.declared.fault.Lack.{Lack}
use Rattle.nor_sheet.specs.declared.fault.LineFault.TheVariants.{Limit}
use Rattle.nor_sheet.specs.Limits.{IsRead}
use Rattle.nor_sheet.specs.Sheet.{Sheet, sheet_of}
use Rattle.nor_sheet.specs.Meaning.{is_below, is_both, lack_of, meaning_of, unless}
use Rattle.norprog_laws.proofs.RunLemmas.{Printed, IsPrinted, Runs, runs_append}
use Rattle.norprog_laws.proofs.PrintedLemmas.{size_printed, page_printed, address_printed, enter_printed, leave_printed, read_printed, dedicated_printed, region_printed, size_is, page_is_printed, address_is, kind_is, enter_is, leave_is, read_is, dedicated_is, region_is}
use Rattle.norprog_laws.proofs.TextLemmas.{kind_listed}

-- ---- the statements

abbrev pub front_listed : Parameters → List Printed
front_listed m = size_printed m.size ∷ page_printed m.page m.open_page ∷ address_printed m.width ∷ []

abbrev pub kinds_listed : Parameters → List Printed
kinds_listed m = kind_listed 1 (erase_kind m 1) ++ (kind_listed 2 (erase_kind m 2) ++ (kind_listed 3 (erase_kind m 3) ++ kind_listed 4 (erase_kind m 4)))

abbrev pub modes_listed : Parameters → List Printed
modes_listed m = enter_printed m.enter ∷ leave_printed m.leave ∷ []

abbrev pub dedicated_listed : Parameters → List Printed
dedicated_listed m = dedicated_printed m.read4 m.quad_read4 m.program4 m.quad4 ∷ []

abbrev pub listed : Parameters → List Printed
listed m = front_listed m ++ (kinds_listed m ++ (modes_listed m ++ (read_printed m.quad_read ∷ [] ++ (dedicated_listed m ++ map region_printed m.regions))))

-- ---- each is printed

kind_listed_is : (m : Parameters) (k : ℕ) (slot : Option Erase) → 1 ≤ k → k ≤ 4 → ((erase : Erase) → slot ≡ Some erase → IsEraseKind m erase) → AllByRecursion IsPrinted (kind_listed k slot)
kind_listed_is m k None low high each = tt
kind_listed_is m k (Some erase) low high each =
    let is = each erase refl in
    (kind_is k erase low high (record { size = is.size; op = is.op; op4 = is.op4 }), tt)

wider : (regions : List Region) (n m : ℕ) → n ≤ m → AllByRecursion (λ region. region.size ≤ n) regions → AllByRecursion (λ region. region.size ≤ m) regions
wider [] n m le all = tt
wider (region ∷ regions) n m le all =
    let here = all.0 in
    (omega (arith, le, here), wider regions n m le all.1)

sizes_within : (regions : List Region) → AllByRecursion (λ region. region.size ≤ sum_by (λ region. region.size) regions) regions
sizes_within [] = tt
sizes_within (region ∷ regions) =
    let whole = sum_by-cons (λ (region : Region). region.size) region regions in
    (omega (arith, whole), wider regions (sum_by (λ region. region.size) regions) (sum_by (λ region. region.size) (region ∷ regions)) (omega (arith, whole)) (sizes_within regions))

regions_listed_are : (regions : List Region) (n : ℕ) → n ≤ 2 ^ 28 → AllByRecursion IsRegion regions → AllByRecursion (λ region. region.size ≤ n) regions → AllByRecursion IsPrinted (map region_printed regions)
regions_listed_are [] n small all within = tt
regions_listed_are (region ∷ regions) n small all within =
    let here = within.0 in
    (region_is region all.0 (omega (arith, small, here)), regions_listed_are regions n small all.1 within.1)

both_of : (read : Option QuadRead) → IfSome read (λ q. q.op < 256) → IfSome read (λ q. q.dummies ≤ 38) → IsRead read
both_of None op dummies = tt
both_of (Some read) op dummies = (op, dummies)

pub listed_are : (m : Parameters) → IsAccepted m → AllByRecursion IsPrinted (listed m)
listed_are m a =
    let fill : sum_by (λ region. region.size) m.regions ≤ 2 ^ 28 = omega (arith, a.regions_fill, a.size_high) in
    all_append IsPrinted (front_listed m) _ (size_is m.size a.size_low a.size_high a.size_whole, (page_is_printed m.page m.open_page a.page, (address_is m.width, tt)))
    (all_append IsPrinted (kinds_listed m) _
    (all_append IsPrinted (kind_listed 1 (erase_kind m 1)) _ (kind_listed_is m 1 (erase_kind m 1) (omega arith) (omega arith) (a.kinds 1))
    (all_append IsPrinted (kind_listed 2 (erase_kind m 2)) _ (kind_listed_is m 2 (erase_kind m 2) (omega arith) (omega arith) (a.kinds 2))
    (all_append IsPrinted (kind_listed 3 (erase_kind m 3)) _ (kind_listed_is m 3 (erase_kind m 3) (omega arith) (omega arith) (a.kinds 3))
    (kind_listed_is m 4 (erase_kind m 4) (omega arith) (omega arith) (a.kinds 4))))) (
      enter_is m.enter,
      (
        leave_is m.leave,
        (
          read_is m.quad_read (both_of m.quad_read a.quad_read_op a.dummies),
          (
            dedicated_is m.read4 m.quad_read4 m.program4 m.quad4,
            regions_listed_are m.regions (sum_by (λ region. region.size) m.regions) fill a.regions (sizes_within m.regions),
          ),
        ),
      ),
    ))

-- ---- what they say

-- all that a meaning says
abbrev pub full : Parameters → Sheet
full m = record {
  size = Some m.size;
  page = Some (record { size = m.page; open_page = m.open_page });
  width = Some m.width;
  kinds = m.erases;
  enter = Some m.enter;
  leave = Some m.leave;
  quad_read = Some m.quad_read;
  dedicated = Some (record { read4 = m.read4; quad_read4 = m.quad_read4; program4 = m.program4; quad4 = m.quad4 });
  regions = m.regions;
}

with_regions : (s : Sheet) (regions : List Region) → length s.regions + length regions ≤ 256 → Runs s (map region_printed regions) (record s { regions = s.regions ++ regions })
with_regions s [] few = ap (λ l. record s { regions = l }) (sym (append-nil s.regions))
with_regions s (region ∷ regions) few =
    let next = record s { regions = s.regions ++ region ∷ [] } in
    let room : nat_le 256 (length s.regions) ≡ false = lt-leb 256 (length s.regions) (omega (arith, few)) in (
      next,
      ap (λ b. if b then Err Limit else Ok next) room,
      subst (λ l. Runs next (map region_printed regions) (record s { regions = l })) (append_assoc s.regions (region ∷ []) regions)
          (with_regions next regions (omega (arith, few, length_push s.regions region))),
    )

abbrev of_kinds : Sheet → Option Erase → Option Erase → Option Erase → Option Erase → Sheet
of_kinds s a b c d = record s { kinds = a ∷ b ∷ c ∷ d ∷ [] }

first_kind : (s : Sheet) (a : Option Erase) → Runs (of_kinds s None None None None) (kind_listed 1 a) (of_kinds s a None None None)
first_kind s None = refl
first_kind s (Some erase) = (of_kinds s (Some erase) None None None, refl, refl)

second_kind : (s : Sheet) (a b : Option Erase) → Runs (of_kinds s a None None None) (kind_listed 2 b) (of_kinds s a b None None)
second_kind s a None = refl
second_kind s a (Some erase) = (of_kinds s a (Some erase) None None, refl, refl)

third_kind : (s : Sheet) (a b c : Option Erase) → Runs (of_kinds s a b None None) (kind_listed 3 c) (of_kinds s a b c None)
third_kind s a b None = refl
third_kind s a b (Some erase) = (of_kinds s a b (Some erase) None, refl, refl)

fourth_kind : (s : Sheet) (a b c d : Option Erase) → Runs (of_kinds s a b c None) (kind_listed 4 d) (of_kinds s a b c d)
fourth_kind s a b c None = refl
fourth_kind s a b c (Some erase) = (of_kinds s a b c (Some erase), refl, refl)

four_kinds : (s : Sheet) (a b c d : Option Erase) → Runs (of_kinds s None None None None) (kind_listed 1 a ++ (kind_listed 2 b ++ (kind_listed 3 c ++ kind_listed 4 d))) (of_kinds s a b c d)
four_kinds s a b c d =
    runs_append _ (of_kinds s a None None None) _ (kind_listed 1 a) _ (first_kind s a)
    (runs_append _ (of_kinds s a b None None) _ (kind_listed 2 b) _ (second_kind s a b)
    (runs_append _ (of_kinds s a b c None) _ (kind_listed 3 c) _ (third_kind s a b c) (fourth_kind s a b c d)))

abbrev slot_at : List (Option Erase) → ℕ → Option Erase
slot_at slots k = option_and_then (λ slot. slot) (slice_get slots k)

four_slots : (slots : List (Option Erase)) → length slots ≡ 4 → slot_at slots 0 ∷ slot_at slots 1 ∷ slot_at slots 2 ∷ slot_at slots 3 ∷ [] ≡ slots
four_slots [] four = absurd (omega (arith, four))
four_slots (a ∷ []) four = absurd (omega (arith, four))
four_slots (a ∷ b ∷ []) four = absurd (omega (arith, four))
four_slots (a ∷ b ∷ c ∷ []) four = absurd (omega (arith, four))
four_slots (a ∷ b ∷ c ∷ d ∷ []) four = refl
four_slots (a ∷ b ∷ c ∷ d ∷ e ∷ more) four = absurd (omega (arith, four))

-- size, page and address bytes alone
abbrev front : Parameters → Sheet
front m = record (sheet_of []) { size = Some m.size; page = Some (record { size = m.page; open_page = m.open_page }); width = Some m.width }

front_runs : (m : Parameters) → Runs (sheet_of []) (front_listed m) (front m)
front_runs m = (
  record (sheet_of []) { size = Some m.size },
  refl,
  (
    record (sheet_of []) { size = Some m.size; page = Some (record { size = m.page; open_page = m.open_page }) },
    refl,
    (front m, refl, refl),
  ),
)

-- all but the regions
abbrev no_regions : Parameters → Sheet
no_regions m = record (full m) { regions = [] }

kinds_run : (m : Parameters) → length m.erases ≡ 4 → Runs (front m) (kinds_listed m) (record (front m) { kinds = m.erases })
kinds_run m four =
    subst (λ slots. Runs (front m) (kinds_listed m) (record (front m) { kinds = slots })) (four_slots m.erases four)
    (four_kinds (front m) (erase_kind m 1) (erase_kind m 2) (erase_kind m 3) (erase_kind m 4))

rest_runs : (m : Parameters) → length m.regions ≤ 256
    → Runs (record (front m) { kinds = m.erases }) (modes_listed m ++ (read_printed m.quad_read ∷ [] ++ (dedicated_listed m ++ map region_printed m.regions))) (full m)
rest_runs m few = (
  record (front m) { kinds = m.erases; enter = Some m.enter },
  refl,
  (
    record (front m) { kinds = m.erases; enter = Some m.enter; leave = Some m.leave },
    refl,
    (
      record (front m) { kinds = m.erases; enter = Some m.enter; leave = Some m.leave; quad_read = Some m.quad_read },
      refl,
      (no_regions m, refl, with_regions (no_regions m) m.regions (omega (arith, few))),
    ),
  ),
)

pub listed_runs : (m : Parameters) → IsAccepted m → Runs (sheet_of []) (listed m) (full m)
listed_runs m a =
    runs_append (sheet_of []) (front m) (full m) (front_listed m) _ (front_runs m)
    (runs_append (front m) (record (front m) { kinds = m.erases }) (full m) (kinds_listed m) _ (kinds_run m a.four_kinds) (rest_runs m a.few_regions))

-- ---- what they mean

none_below : (page : ℕ) (slots : List (Option Erase)) → ((k : ℕ) (erase : Erase) → slot_at slots k ≡ Some erase → page ≤ erase.size) → list_any (is_below page) slots ≡ false
none_below page [] each = refl
none_below page (None ∷ slots) each = none_below page slots (λ k erase is. each (suc k) erase is)
none_below page (Some erase ∷ slots) each =
    rw (le-ltb erase.size page (each 0 erase refl)) (none_below page slots (λ k erase is. each (suc k) erase is))

mode_there : (enter leave : Switch) (width : Width) → (enter ≢ Absent → width ≡ Both) → (leave ≢ Absent → width ≡ Both) → ((is_there enter || is_there leave) && not (is_both width)) ≡ false
mode_there Absent Absent width entered left = refl
mode_there Absent Plain width entered left = ap (λ w. not (is_both w)) (left (λ e. cc))
mode_there Absent Latched width entered left = ap (λ w. not (is_both w)) (left (λ e. cc))
mode_there Plain leave width entered left = ap (λ w. not (is_both w)) (entered (λ e. cc))
mode_there Latched leave width entered left = ap (λ w. not (is_both w)) (entered (λ e. cc))

read_there : (offered : Bool) (read : Option QuadRead) → (offered ≡ true → IsSome read) → (offered && not (is_some read)) ≡ false
read_there true None there =
    let no : false ≡ true = there refl in
    cc
read_there true (Some read) there = refl
read_there false read there = refl

none_lacks : (a b c d e : Bool) (v w x y z : Lack) → a ≡ false → b ≡ true → c ≡ false → d ≡ false → e ≡ true
    → (if a then Some v else if not b then Some w else if c then Some x else if d then Some y else if not e then Some z else None) ≡ None
none_lacks a b c d e v w x y z one two three four five = rw (one, two, three, four, five) refl

lacks_nothing : (m : Parameters) → IsAccepted m → lack_of m ≡ None
lacks_nothing m a =
    none_lacks (list_any (is_below m.page) m.erases) (sum_by (λ region. region.size) m.regions == m.size) ((is_there m.enter || is_there m.leave) && not (is_both m.width))
    (m.quad_read4 && not (is_some m.quad_read)) (are_distinct (fixed_opcodes ++ offered_opcodes (own_rows m false))) _ _ _ _ _
    (none_below m.page m.erases (λ k erase is. (a.kinds (suc k) erase is).whole_pages)) (eq-eqb _ _ a.regions_fill) (mode_there m.enter m.leave m.width a.enter a.leave)
    (read_there m.quad_read4 m.quad_read a.quad_read4) a.opcodes

pub full_means : (m : Parameters) → IsAccepted m → meaning_of (full m) ≡ Ok (record m { quad3 = false; erased_only = false })
full_means m a = ap (unless (record m { quad3 = false; erased_only = false })) (lacks_nothing m a)
