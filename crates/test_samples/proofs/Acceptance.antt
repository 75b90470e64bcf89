-- Parameters that pass a test which computes are accepted.
use Rattle.std.proofs.Common.{◌≡◌, ◌≢◌, ℕ, zero, suc, ◌+◌, ◌≤◌, ◌<◌, ◌%◌, ◌^◌, Bool, true, false, not, eqb, leb, ltb, ◌&&◌, ◌||◌, List, [], ◌∷◌, ◌++◌, length, Option, Some, None, IsSome, IfSome, refl, inl, inr, subst, arith}
use Rattle.std.specs.List.{AllByRecursion, list_all, slice_get, sum_by}
use Rattle.std.specs.Option.{option_and_then}
use Rattle.std.proofs.lemmas.Bool.{and_parts, or_cases, eqb-true, leb-true, ltb-true, false≢true}
use Rattle.nor_base.specs.declared.meaning.Erase.{Erase}
use Rattle.nor_base.specs.declared.meaning.QuadRead.{QuadRead}
use Rattle.nor_base.specs.declared.meaning.Region.{Region}
use Rattle.nor_base.specs.declared.meaning.Switch.{Switch}
use Rattle.nor_base.specs.declared.meaning.Switch.TheVariants.{Absent, Plain, Latched}
use Rattle.nor_base.specs.declared.meaning.Width.{Width}
use Rattle.nor_base.specs.declared.meaning.Width.TheVariants.{Three, Both, Four}
use Rattle.nor_base.specs.Parameters.{Parameters, erase_kind}
use Rattle.nor_base.specs.Instructions.{offered_opcodes, own_rows}
use Rattle.nor_base.specs.Accepted.{IsAccepted, IsEraseKind, IsPowerOfTwo, IsRegion, are_distinct, fixed_opcodes}

-- a power of two, its exponent one of so many from `low` on
abbrev is_power : ℕ → ℕ → ℕ → Bool
is_power low zero n = false
is_power low (suc count) n = eqb n (2 ^ low) || is_power (suc low) count n

power : (least most low count n : ℕ) → least ≤ low → low + count ≤ suc most → is_power low count n ≡ true → IsPowerOfTwo least most n
power least most low zero n from to h = absurd (false≢true h)
power least most low (suc count) n from to h =
    elim (or_cases (eqb n (2 ^ low)) (is_power (suc low) count n) h) [
      | inl is ↦ record { exponent = low; at_least = from; at_most = omega arith; value = eqb-true n (2 ^ low) is }
      | inr later ↦ power least most (suc low) count n (omega arith) (omega arith) later
    ]

abbrev fits_size : ℕ → Bool
fits_size size = leb 4096 size && (leb size (2 ^ 28) && eqb (size % 4096) 0)

abbrev fits_byte : Option ℕ → Bool
fits_byte None = true
fits_byte (Some code) = ltb code 256

byte : (code : Option ℕ) → fits_byte code ≡ true → IfSome code (λ op4. op4 < 256)
byte None h = tt
byte (Some code) h = ltb-true code 256 h

-- the slot of an erase kind, beside a page of so many bytes
abbrev fits_slot : ℕ → Option Erase → Bool
fits_slot page None = true
fits_slot page (Some erase) = is_power 8 17 erase.size && (leb page erase.size && (ltb erase.op 256 && fits_byte erase.op4))

slot_kind : (m : Parameters) (erase : Erase) → fits_slot m.page (Some erase) ≡ true → IsEraseKind m erase
slot_kind m erase h =
    let rest = (and_parts (is_power 8 17 erase.size) _ h).1 in
    let opcodes = (and_parts (leb m.page erase.size) _ rest).1 in record {
      size = power 8 24 8 17 erase.size (omega arith) (omega arith) (and_parts (is_power 8 17 erase.size) _ h).0;
      whole_pages = leb-true m.page erase.size (and_parts (leb m.page erase.size) _ rest).0;
      op = ltb-true erase.op 256 (and_parts (ltb erase.op 256) _ opcodes).0;
      op4 = byte erase.op4 (and_parts (ltb erase.op 256) _ opcodes).1;
    }

slot_fits : (page : ℕ) (slots : List (Option Erase)) (place : ℕ) (erase : Erase) → list_all (fits_slot page) slots ≡ true
    → option_and_then (λ slot. slot) (slice_get slots place) ≡ Some erase → fits_slot page (Some erase) ≡ true
slot_fits page [] place erase h is = cc
slot_fits page (slot ∷ slots) zero erase h is = subst (λ one. fits_slot page one ≡ true) is (and_parts (fits_slot page slot) _ h).0
slot_fits page (slot ∷ slots) (suc place) erase h is = slot_fits page slots place erase (and_parts (fits_slot page slot) _ h).1 is

kinds : (m : Parameters) → list_all (fits_slot m.page) m.erases ≡ true → (kind : ℕ) (erase : Erase) → erase_kind m kind ≡ Some erase → IsEraseKind m erase
kinds m h zero erase is = cc
kinds m h (suc place) erase is = slot_kind m erase (slot_fits m.page m.erases place erase h is)

abbrev fits_region : Region → Bool
fits_region region = ltb 0 region.size && (eqb (region.size % 256) 0 && ltb region.kinds 16)

regions : (map : List Region) → list_all fits_region map ≡ true → AllByRecursion IsRegion map
regions [] h = tt
regions (region ∷ map) h =
    let this = (and_parts (fits_region region) _ h).0 in
    let rest = (and_parts (ltb 0 region.size) _ this).1 in (
      record {
        some = ltb-true 0 region.size (and_parts (ltb 0 region.size) _ this).0;
        whole = eqb-true (region.size % 256) 0 (and_parts (eqb (region.size % 256) 0) _ rest).0;
        mask = ltb-true region.kinds 16 (and_parts (eqb (region.size % 256) 0) _ rest).1;
      },
      regions map (and_parts (fits_region region) _ h).1,
    )

-- a way to change the mode, of a chip with so many address bytes
abbrev fits_switch : Width → Switch → Bool
fits_switch Both switch = true
fits_switch Three Absent = true
fits_switch Four Absent = true
fits_switch width switch = false

switch_fits : (width : Width) (switch : Switch) → fits_switch width switch ≡ true → switch ≢ Absent → width ≡ Both
switch_fits Both switch h there = refl
switch_fits Three Absent h there = absurd (there refl)
switch_fits Four Absent h there = absurd (there refl)
switch_fits Three Plain h there = absurd (false≢true h)
switch_fits Three Latched h there = absurd (false≢true h)
switch_fits Four Plain h there = absurd (false≢true h)
switch_fits Four Latched h there = absurd (false≢true h)

-- the 1-1-4 fast read, and whether there is one with four address bytes
abbrev fits_quad_read : Option QuadRead → Bool → Bool
fits_quad_read None dedicated = not dedicated
fits_quad_read (Some read) dedicated = ltb read.op 256 && leb read.dummies 38

quad_read4 : (read : Option QuadRead) (dedicated : Bool) → fits_quad_read read dedicated ≡ true → dedicated ≡ true → IsSome read
quad_read4 None true h there = absurd (false≢true h)
quad_read4 None false h there = absurd (false≢true there)
quad_read4 (Some read) dedicated h there = refl

quad_read_op : (read : Option QuadRead) (dedicated : Bool) → fits_quad_read read dedicated ≡ true → IfSome read (λ q. q.op < 256)
quad_read_op None dedicated h = tt
quad_read_op (Some read) dedicated h = ltb-true read.op 256 (and_parts (ltb read.op 256) _ h).0

dummies : (read : Option QuadRead) (dedicated : Bool) → fits_quad_read read dedicated ≡ true → IfSome read (λ q. q.dummies ≤ 38)
dummies None dedicated h = tt
dummies (Some read) dedicated h = leb-true read.dummies 38 (and_parts (ltb read.op 256) _ h).1

abbrev fits_slots : Parameters → Bool
fits_slots m = eqb (length m.erases) 4 && list_all (fits_slot m.page) m.erases

abbrev fits_map : Parameters → Bool
fits_map m =
    ltb 0 (length m.regions) && (leb (length m.regions) 256 && (list_all fits_region m.regions && eqb (sum_by (λ region. region.size) m.regions) m.size))

abbrev fits_modes : Parameters → Bool
fits_modes m = fits_switch m.width m.enter && fits_switch m.width m.leave

abbrev pub fits : Parameters → Bool
fits m =
    fits_size m.size
    && (is_power 4 9 m.page
    && (fits_slots m
    && (fits_map m
    && (fits_modes m && (fits_quad_read m.quad_read m.quad_read4 && are_distinct (fixed_opcodes ++ offered_opcodes (own_rows m false)))))))

pub accepted : (m : Parameters) → fits m ≡ true → IsAccepted m
accepted m h =
    let size = and_parts (fits_size m.size) _ h in
    let page = and_parts (is_power 4 9 m.page) _ size.1 in
    let slots = and_parts (fits_slots m) _ page.1 in
    let map = and_parts (fits_map m) _ slots.1 in
    let modes = and_parts (fits_modes m) _ map.1 in
    let read = and_parts (fits_quad_read m.quad_read m.quad_read4) _ modes.1 in
    let low = and_parts (leb 4096 m.size) _ size.0 in
    let high = and_parts (leb m.size (2 ^ 28)) _ low.1 in
    let four = and_parts (eqb (length m.erases) 4) _ slots.0 in
    let some = and_parts (ltb 0 (length m.regions)) _ map.0 in
    let few = and_parts (leb (length m.regions) 256) _ some.1 in
    let each = and_parts (list_all fits_region m.regions) _ few.1 in
    let enters = and_parts (fits_switch m.width m.enter) _ modes.0 in record {
      size_low = leb-true 4096 m.size low.0;
      size_high = leb-true m.size (2 ^ 28) high.0;
      size_whole = eqb-true (m.size % 4096) 0 high.1;
      page = power 4 12 4 9 m.page (omega arith) (omega arith) page.0;
      four_kinds = eqb-true (length m.erases) 4 four.0;
      kinds = kinds m four.1;
      some_region = ltb-true 0 (length m.regions) some.0;
      few_regions = leb-true (length m.regions) 256 few.0;
      regions = regions m.regions each.0;
      regions_fill = eqb-true (sum_by (λ region. region.size) m.regions) m.size each.1;
      enter = switch_fits m.width m.enter enters.0;
      leave = switch_fits m.width m.leave enters.1;
      quad_read4 = quad_read4 m.quad_read m.quad_read4 read.0;
      quad_read_op = quad_read_op m.quad_read m.quad_read4 read.0;
      dummies = dummies m.quad_read m.quad_read4 read.0;
      opcodes = read.1;
    }
