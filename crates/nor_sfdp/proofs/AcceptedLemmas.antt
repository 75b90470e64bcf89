-- What is read is accepted.
use Rattle.std.proofs.Common.{◌≡◌, ◌≢◌, ℕ, zero, suc, ◌%◌, ◌^◌, ◌<◌, ◌≤◌, Bool, true, false, not, ◌&&◌, ◌||◌, List, [], ◌∷◌, ◌++◌, length, Option, Some, None, refl, sym, ap, subst, ◌∙◌, arith}
use Rattle.std.specs.Prelude.{◌==◌, IfSome, IsSome, is_some, slice_get, option_and_then, if◌then◌else◌}
use Rattle.std.specs.Option.{option_map_or}
use Rattle.std.proofs.lemmas.List.{append-nil}
use Rattle.std.specs.List.{list_any, AllByRecursion}
use Rattle.nor_base.specs.declared.meaning.Erase.{Erase}
use Rattle.nor_base.specs.declared.meaning.Region.{Region}
use Rattle.nor_base.specs.declared.meaning.QuadRead.{QuadRead}
use Rattle.nor_base.specs.declared.meaning.Width.TheVariants.{Both}
use Rattle.nor_base.specs.declared.meaning.Switch.TheVariants.{Absent}
use Rattle.nor_base.specs.declared.instruction.What.TheVariants as what
use Rattle.nor_base.specs.Parameters.{Parameters, erase_kind}
use Rattle.nor_base.specs.Instructions.{Row, row, offered_opcodes, own_rows, erase_rows}
use Rattle.nor_base.specs.Accepted.{IsAccepted, IsEraseKind, IsPowerOfTwo, IsRegion, are_distinct, fixed_opcodes}
use Rattle.nor_sfdp.specs.Kinds.{IsKind, IsKindOf}
use Rattle.nor_sfdp.specs.SectorMap.{bytes_of}
use Rattle.nor_sfdp.specs.Opcodes.{is_allowed, kind_opcodes, live_opcodes, taken_opcodes}

-- ---- lists in which no number stands twice

or_false : (b r s : Bool) → (b || r) ≡ false → (r ≡ false → s ≡ false) → (b || s) ≡ false
or_false true r s h f = cc
or_false false r s h f = f h

any-insert : (p : ℕ → Bool) (xs : List ℕ) (q : ℕ) (ys : List ℕ) → p q ≡ false → list_any p (xs ++ ys) ≡ false → list_any p (xs ++ q ∷ ys) ≡ false
any-insert p [] q ys other h = rw other h
any-insert p (x ∷ xs) q ys other h = or_false (p x) (list_any p (xs ++ ys)) (list_any p (xs ++ q ∷ ys)) h (any-insert p xs q ys other)

both_true : (a d : Bool) → (not a && d) ≡ true → (a ≡ false) × (d ≡ true)
both_true true d h = cc
both_true false d h = (refl, h)

first_false : (a r : Bool) → (a || r) ≡ false → (a ≡ false) × (r ≡ false)
first_false true r h = cc
first_false false r h = (refl, h)

eqb-sym : (a b : ℕ) → (a == b) ≡ false → (b == a) ≡ false
eqb-sym a b h = grind arith

pub distinct-insert : (xs : List ℕ) (q : ℕ) (ys : List ℕ) → list_any (λ other. q == other) (xs ++ ys) ≡ false → are_distinct (xs ++ ys) ≡ true → are_distinct (xs ++ q ∷ ys) ≡ true
distinct-insert [] q ys new h = rw (new, h) refl
distinct-insert (x ∷ xs) q ys new h =
    let parts = both_true (list_any (λ y. x == y) (xs ++ ys)) (are_distinct (xs ++ ys)) h in
    let others = first_false (q == x) (list_any (λ other. q == other) (xs ++ ys)) new in
    let first : list_any (λ y. x == y) (xs ++ q ∷ ys) ≡ false = any-insert (λ y. x == y) xs q ys (eqb-sym q x others.0) parts.0 in
    rw (first, distinct-insert xs q ys others.1 parts.1) refl

-- ---- the opcodes of the chip's own rows

pub offered-append : (xs ys : List Row) → offered_opcodes (xs ++ ys) ≡ offered_opcodes xs ++ offered_opcodes ys
offered-append [] ys = refl
offered-append (x ∷ xs) ys = by_offer x.offered x.opcode (offered_opcodes (xs ++ ys)) (offered_opcodes xs) (offered_opcodes ys) (offered-append xs ys) where
  by_offer : (b : Bool) (o : ℕ) (both xs ys : List ℕ) → both ≡ xs ++ ys → (if b then o ∷ both else both) ≡ (if b then o ∷ xs else xs) ++ ys
  by_offer true o both xs ys e = ap (λ l. o ∷ l) e
  by_offer false o both xs ys e = e

abbrev pub rows_of : Option Erase → Bool → ℕ → List Row
rows_of slot allowed kind =
    row (option_map_or (λ erase. erase.op) slot 0) (is_some slot && allowed) (what.Erase kind) 3
    ∷ row (option_map_or (λ op4. op4) (option_and_then (λ erase. erase.op4) slot) 0) ((is_some slot && allowed) && is_some (option_and_then (λ erase. erase.op4) slot)) (what.Erase kind) 4
    ∷ []

pub kind_rows : (slot : Option Erase) (allowed : Bool) (kind : ℕ) → offered_opcodes (rows_of slot allowed kind) ≡ kind_opcodes slot allowed
kind_rows None allowed kind = refl
kind_rows (Some erase) allowed kind = by_op4 erase.size erase.op erase.op4 allowed kind where
  by_op4 : (size op : ℕ) (op4 : Option ℕ) (allowed : Bool) (kind : ℕ)
      → offered_opcodes (rows_of (Some (record { size = size; op = op; op4 = op4 })) allowed kind) ≡ kind_opcodes (Some (record { size = size; op = op; op4 = op4 })) allowed
  by_op4 size op None true kind = refl
  by_op4 size op (Some op4) true kind = refl
  by_op4 size op None false kind = refl
  by_op4 size op (Some op4) false kind = refl

joined : (xs ys : List Row) (a b : List ℕ) → offered_opcodes xs ≡ a → offered_opcodes ys ≡ b → offered_opcodes (xs ++ ys) ≡ a ++ b
joined xs ys a b first rest = offered-append xs ys ∙ ap (λ (l : List ℕ). l ++ offered_opcodes ys) first ∙ ap (λ (l : List ℕ). a ++ l) rest

-- the opcodes of the erase rows are those of the live kinds
erase_opcodes : (first second third fourth : Option Erase) (regions : List Region)
    → offered_opcodes (rows_of first (is_allowed regions 1) 1 ++ (rows_of second (is_allowed regions 2) 2 ++ (rows_of third (is_allowed regions 3) 3 ++ rows_of fourth (is_allowed regions 4) 4)))
    ≡ live_opcodes regions 1 (first ∷ second ∷ third ∷ fourth ∷ [])
erase_opcodes first second third fourth regions =
    let k4 = kind_rows fourth (is_allowed regions 4) 4 ∙ sym (append-nil (kind_opcodes fourth (is_allowed regions 4))) in
    let k3 = joined (rows_of third (is_allowed regions 3) 3) (rows_of fourth (is_allowed regions 4) 4) (kind_opcodes third (is_allowed regions 3)) (kind_opcodes fourth (is_allowed regions 4) ++ [])
    (kind_rows third (is_allowed regions 3) 3) k4 in
    let k2 = joined (rows_of second (is_allowed regions 2) 2) (rows_of third (is_allowed regions 3) 3 ++ rows_of fourth (is_allowed regions 4) 4)
    (kind_opcodes second (is_allowed regions 2)) (live_opcodes regions 3 (third ∷ fourth ∷ [])) (kind_rows second (is_allowed regions 2) 2) k3 in
    joined (rows_of first (is_allowed regions 1) 1) (rows_of second (is_allowed regions 2) 2 ++ (rows_of third (is_allowed regions 3) 3 ++ rows_of fourth (is_allowed regions 4) 4))
    (kind_opcodes first (is_allowed regions 1)) (live_opcodes regions 2 (second ∷ third ∷ fourth ∷ [])) (kind_rows first (is_allowed regions 1) 1) k2

-- the quad read's opcode is another
all_distinct : (read : Option QuadRead) (rows : List Row) (live : List ℕ) → offered_opcodes rows ≡ live → are_distinct (fixed_opcodes ++ live) ≡ true
    → IfSome read (λ q. list_any (λ other. q.op == other) (fixed_opcodes ++ live) ≡ false)
    → are_distinct (fixed_opcodes ++ (if is_some read then option_map_or (λ q. q.op) read 0 ∷ offered_opcodes rows else offered_opcodes rows)) ≡ true
all_distinct None rows live same distinct free = ap (λ (l : List ℕ). are_distinct (fixed_opcodes ++ l)) same ∙ distinct
all_distinct (Some q) rows live same distinct free =
    ap (λ (l : List ℕ). are_distinct (fixed_opcodes ++ q.op ∷ l)) same ∙ distinct-insert fixed_opcodes q.op live free distinct

own_distinct : (m : Parameters) (first second third fourth : Option Erase) → m.erases ≡ first ∷ second ∷ third ∷ fourth ∷ []
    → are_distinct (taken_opcodes m.erases m.regions) ≡ true → IfSome m.quad_read (λ q. list_any (λ other. q.op == other) (taken_opcodes m.erases m.regions) ≡ false)
    → are_distinct (fixed_opcodes ++ offered_opcodes (own_rows m false)) ≡ true
own_distinct m first second third fourth four distinct free =
    all_distinct m.quad_read (erase_rows m false 1 ++ (erase_rows m false 2 ++ (erase_rows m false 3 ++ erase_rows m false 4))) (live_opcodes m.regions 1 m.erases) (same_rows m first second third fourth four) distinct free where
      same_rows : (m : Parameters) (first second third fourth : Option Erase) → m.erases ≡ first ∷ second ∷ third ∷ fourth ∷ []
          → offered_opcodes (erase_rows m false 1 ++ (erase_rows m false 2 ++ (erase_rows m false 3 ++ erase_rows m false 4))) ≡ live_opcodes m.regions 1 m.erases
      same_rows m first second third fourth four = along m.regions m.erases (first ∷ second ∷ third ∷ fourth ∷ []) four (erase_opcodes first second third fourth m.regions) where
        along : (regions : List Region) (slots four : List (Option Erase)) → slots ≡ four
            → offered_opcodes (rows_of (option_and_then (λ slot. slot) (slice_get four 0)) (is_allowed regions 1) 1 ++ (rows_of (option_and_then (λ slot. slot) (slice_get four 1)) (is_allowed regions 2) 2
            ++ (rows_of (option_and_then (λ slot. slot) (slice_get four 2)) (is_allowed regions 3) 3 ++ rows_of (option_and_then (λ slot. slot) (slice_get four 3)) (is_allowed regions 4) 4))) ≡ live_opcodes regions 1 four
            → offered_opcodes (rows_of (option_and_then (λ slot. slot) (slice_get slots 0)) (is_allowed regions 1) 1 ++ (rows_of (option_and_then (λ slot. slot) (slice_get slots 1)) (is_allowed regions 2) 2
            ++ (rows_of (option_and_then (λ slot. slot) (slice_get slots 2)) (is_allowed regions 3) 3 ++ rows_of (option_and_then (λ slot. slot) (slice_get slots 3)) (is_allowed regions 4) 4))) ≡ live_opcodes regions 1 slots
        along regions slots four is h = rw is h

pub slot_holds : (P : Erase → Type 0) (slots : List (Option Erase)) (k : ℕ) (erase : Erase) → AllByRecursion (λ slot. IfSome slot P) slots
    → option_and_then (λ slot. slot) (slice_get slots k) ≡ Some erase → P erase
slot_holds P [] k erase all is = cc
slot_holds P (None ∷ slots) zero erase all is = cc
slot_holds P (Some this ∷ slots) zero erase all is = let e : this ≡ erase = cc in subst P e all.0
slot_holds P (slot ∷ slots) (suc k) erase all is = slot_holds P slots k erase all.1 is

pub kind_accepted : (m : Parameters) → AllByRecursion (IsKind m.page) m.erases → (kind : ℕ) (erase : Erase) → erase_kind m kind ≡ Some erase → IsEraseKind m erase
kind_accepted m all zero erase is = cc
kind_accepted m all (suc k) erase is =
    let held = slot_holds (IsKindOf m.page) m.erases k erase all is in
    record { size = held.size; whole_pages = held.whole_pages; op = held.op; op4 = held.op4 }

pub some_region : (regions : List Region) (size : ℕ) → bytes_of regions ≡ size → 4096 ≤ size → 0 < length regions
some_region [] size fill low = absurd (omega (arith, fill, low))
some_region (region ∷ regions) size fill low = omega arith

by_four : (m : Parameters) → length m.erases ≡ 4 → are_distinct (taken_opcodes m.erases m.regions) ≡ true
    → IfSome m.quad_read (λ q. list_any (λ other. q.op == other) (taken_opcodes m.erases m.regions) ≡ false) → are_distinct (fixed_opcodes ++ offered_opcodes (own_rows m false)) ≡ true
by_four m four distinct free = by_slots m m.erases refl four distinct free where
  by_slots : (m : Parameters) (slots : List (Option Erase)) → m.erases ≡ slots → length slots ≡ 4 → are_distinct (taken_opcodes m.erases m.regions) ≡ true
      → IfSome m.quad_read (λ q. list_any (λ other. q.op == other) (taken_opcodes m.erases m.regions) ≡ false) → are_distinct (fixed_opcodes ++ offered_opcodes (own_rows m false)) ≡ true
  by_slots m [] is four distinct free = absurd (omega (arith, four))
  by_slots m (a ∷ []) is four distinct free = absurd (omega (arith, four))
  by_slots m (a ∷ b ∷ []) is four distinct free = absurd (omega (arith, four))
  by_slots m (a ∷ b ∷ c ∷ []) is four distinct free = absurd (omega (arith, four))
  by_slots m (a ∷ b ∷ c ∷ d ∷ []) is four distinct free = own_distinct m a b c d is distinct free
  by_slots m (a ∷ b ∷ c ∷ d ∷ e ∷ more) is four distinct free = absurd (omega (arith, four))

-- what was read and not refused
pub record IsRead (m : Parameters) : Type 0 where
  pub low : 4096 ≤ m.size
  pub high : m.size ≤ 2 ^ 28
  pub whole : m.size % 4096 ≡ 0
  pub power : IsPowerOfTwo 4 12 m.page
  pub four : length m.erases ≡ 4
  pub kinds : AllByRecursion (IsKind m.page) m.erases
  pub few : length m.regions ≤ 256
  pub form : AllByRecursion IsRegion m.regions
  pub fill : bytes_of m.regions ≡ m.size
  pub enter : m.enter ≢ Absent → m.width ≡ Both
  pub leave : m.leave ≢ Absent → m.width ≡ Both
  pub quad_read4 : m.quad_read4 ≡ true → IsSome m.quad_read
  pub op : IfSome m.quad_read (λ q. q.op < 256)
  pub dummies : IfSome m.quad_read (λ q. q.dummies ≤ 38)
  pub distinct : are_distinct (taken_opcodes m.erases m.regions) ≡ true
  pub free : IfSome m.quad_read (λ q. list_any (λ other. q.op == other) (taken_opcodes m.erases m.regions) ≡ false)

pub accepted : (m : Parameters) → IsRead m → IsAccepted m
accepted m r = record {
  size_low = r.low;
  size_high = r.high;
  size_whole = r.whole;
  page = r.power;
  four_kinds = r.four;
  kinds = kind_accepted m r.kinds;
  some_region = some_region m.regions m.size r.fill r.low;
  few_regions = r.few;
  regions = r.form;
  regions_fill = r.fill;
  enter = r.enter;
  leave = r.leave;
  quad_read4 = r.quad_read4;
  quad_read_op = r.op;
  dummies = r.dummies;
  opcodes = by_four m r.four r.distinct r.free;
}
