-- A sheet that lacks nothing means what is accepted.
use Rattle.std.proofs.Common.{◌≡◌, ◌≢◌, ℕ, ◌<◌, ◌≤◌, ◌^◌, ◌%◌, ◌==◌, nat_lt, Bool, true, false, not, ◌&&◌, ◌||◌, List, [], ◌∷◌, ◌++◌, Option, Some, None, refl, subst}
use Rattle.std.specs.Prelude.{IfSome, IsSome, is_some, sum_by, if◌then◌else◌}
use Rattle.std.specs.List.{list_any, AllByRecursion}
use Rattle.std.proofs.lemmas.Bool.{eqb-true, ltb-false}
use Rattle.nor_base.specs.declared.meaning.Erase.{Erase}
use Rattle.nor_base.specs.declared.meaning.QuadRead.{QuadRead}
use Rattle.nor_base.specs.declared.meaning.Switch.{Switch}
use Rattle.nor_base.specs.declared.meaning.Switch.TheVariants.{Absent, Plain, Latched}
use Rattle.nor_base.specs.declared.meaning.Width.{Width}
use Rattle.nor_base.specs.declared.meaning.Width.TheVariants.{Three, Both, Four}
use Rattle.nor_base.specs.Instructions.{is_there, offered_opcodes, own_rows}
use Rattle.nor_base.specs.Accepted.{IsAccepted, IsPowerOfTwo, are_distinct, fixed_opcodes}
use Rattle.nor_sfdp.specs.Kinds.{IsKind}
use Rattle.nor_sfdp.proofs.AcceptedLemmas.{kind_accepted, some_region}
use Rattle.nor_sheet.specs.declared.fault.Lack.{Lack}
use Rattle.nor_sheet.specs.declared.said.Page.{Page}
use Rattle.nor_sheet.specs.Limits.{IsErase, IsRead}
use Rattle.nor_sheet.specs.Sheet.{Sheet, AreSaid}
use Rattle.nor_sheet.specs.Meaning.{is_below, is_both, lack_of, parameters_by, quad_read_of}

-- none of five tests
pub record AreFalse (a b c d e : Bool) : Type 0 where
  pub one : a ≡ false
  pub two : b ≡ false
  pub three : c ≡ false
  pub four : d ≡ false
  pub five : e ≡ false

pub none_of : (a b c d e : Bool) (v w x y z : Lack) → (if a then Some v else if b then Some w else if c then Some x else if d then Some y else if e then Some z else None) ≡ None
    → AreFalse a b c d e
none_of true b c d e v w x y z h = cc
none_of false true c d e v w x y z h = cc
none_of false false true d e v w x y z h = cc
none_of false false false true e v w x y z h = cc
none_of false false false false true v w x y z h = cc
none_of false false false false false v w x y z h = record { one = refl; two = refl; three = refl; four = refl; five = refl }

is_so : (b : Bool) → not b ≡ false → b ≡ true
is_so true h = refl
is_so false h = cc

first_false : (a b : Bool) → (a || b) ≡ false → (a ≡ false) × (b ≡ false)
first_false true b h = cc
first_false false b h = (refl, h)

whole_kinds : (page : ℕ) (slots : List (Option Erase)) → AllByRecursion (λ slot. IfSome slot IsErase) slots → list_any (is_below page) slots ≡ false → AllByRecursion (IsKind page) slots
whole_kinds page [] all none = tt
whole_kinds page (None ∷ slots) all none = (tt, whole_kinds page slots all.1 none)
whole_kinds page (Some erase ∷ slots) all none =
    let parts = first_false (nat_lt erase.size page) (list_any (is_below page) slots) none in
    (record { size = all.0.size; whole_pages = ltb-false erase.size page parts.0; op = all.0.op; op4 = all.0.op4 }, whole_kinds page slots all.1 parts.1)

both : (width : Width) → not (is_both width) ≡ false → width ≡ Both
both Three h = cc
both Both h = refl
both Four h = cc

mode : (enter leave : Switch) (width : Width) → ((is_there enter || is_there leave) && not (is_both width)) ≡ false → enter ≢ Absent → width ≡ Both
mode Absent leave width h there = absurd (there refl)
mode Plain leave width h there = both width h
mode Latched leave width h there = both width h

left : (enter leave : Switch) (width : Width) → ((is_there enter || is_there leave) && not (is_both width)) ≡ false → leave ≢ Absent → width ≡ Both
left enter Absent width h there = absurd (there refl)
left Absent Plain width h there = both width h
left Absent Latched width h there = both width h
left Plain leave width h there = both width h
left Latched leave width h there = both width h

read_there : (offered : Bool) (read : Option QuadRead) → (offered && not (is_some read)) ≡ false → offered ≡ true → IsSome read
read_there true None h is = cc
read_there true (Some read) h is = refl
read_there false read h is = cc

read_op : (told : Option (Option QuadRead)) → IfSome told IsRead → IfSome (quad_read_of told) (λ q. q.op < 256)
read_op None h = tt
read_op (Some None) h = tt
read_op (Some (Some read)) h = h.0

read_dummies : (told : Option (Option QuadRead)) → IfSome told IsRead → IfSome (quad_read_of told) (λ q. q.dummies ≤ 38)
read_dummies None h = tt
read_dummies (Some None) h = tt
read_dummies (Some (Some read)) h = h.1

pub accepted : (s : Sheet) (n : ℕ) (page : Page) (width : Width) → AreSaid s → s.size ≡ Some n → s.page ≡ Some page → lack_of (parameters_by s n page width) ≡ None
    → IsAccepted (parameters_by s n page width)
accepted s n page width said is_size is_page lacks =
    let m = parameters_by s n page width in
    let passed = none_of (list_any (is_below m.page) m.erases) (not (sum_by (λ region. region.size) m.regions == m.size)) ((is_there m.enter || is_there m.leave) && not (is_both m.width))
    (m.quad_read4 && not (is_some m.quad_read)) (not (are_distinct (fixed_opcodes ++ offered_opcodes (own_rows m false)))) _ _ _ _ _ lacks in
    let size = subst (λ o. IfSome o (λ n. (4096 ≤ n) × (n ≤ 2 ^ 28) × (n % 4096 ≡ 0))) is_size said.size in
    let power = subst (λ o. IfSome o (λ page. IsPowerOfTwo 4 12 page.size)) is_page said.page in
    let fill = eqb-true (sum_by (λ region. region.size) m.regions) m.size (is_so _ passed.two) in
    record {
      size_low = size.0;
      size_high = size.1;
      size_whole = size.2;
      page = power;
      four_kinds = said.four;
      kinds = kind_accepted m (whole_kinds page.size s.kinds said.kinds passed.one);
      some_region = some_region m.regions m.size fill size.0;
      few_regions = said.few;
      regions = said.regions;
      regions_fill = fill;
      enter = mode m.enter m.leave width passed.three;
      leave = left m.enter m.leave width passed.three;
      quad_read4 = read_there m.quad_read4 m.quad_read passed.four;
      quad_read_op = read_op s.quad_read said.quad_read;
      dummies = read_dummies s.quad_read said.quad_read;
      opcodes = is_so _ passed.five;
    }

-- what is lacking, where none of the first four things is
pub none_before : (a b c d e : Bool) (v w x y z : Lack) → a ≡ false → b ≡ false → c ≡ false → d ≡ false
    → (if a then Some v else if b then Some w else if c then Some x else if d then Some y else if e then Some z else None) ≡ (if e then Some z else None)
none_before a b c d e v w x y z one two three four = rw (one, two, three, four) refl
