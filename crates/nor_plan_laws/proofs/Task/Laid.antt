-- A program within one page of a chip: what it does to the array.
use Rattle.std.proofs.Common.{◌≡◌, ◌⊎◌, ℕ, zero, suc, ◌+◌, ◌-◌, ◌%◌, ◌<◌, ◌≤◌, ◌==◌, nat_le, nat_lt, Bool, true, false, not, ◌&&◌, if◌then◌else◌, List, length, Some, None, refl, sym, ◌∙◌, ap, subst, arith, inl, inr, ne_eqb, eq-eqb, eqb-true, le-leb, ext_get_or, mod-eq_of_lt}
use Rattle.std.specs.Prelude.{bit_and}
use Rattle.std.specs.List.{slice_index}
use Rattle.std.specs.Option.{option_map_or}
use Rattle.std.proofs.Math.Nat.{mod-add-mod}
use Rattle.std.proofs.Math.Bool.{and-false}
use Rattle.std.proofs.lemmas.Bool.{cases_lt, cases_Bool, both_ways, lt-leb, le-ltb}
use Rattle.std.proofs.lemmas.Nat.{and_comm, and_mask}
use Rattle.nor_base.specs.Parameters.{Parameters}
use Rattle.nor_base.specs.Effect.{may_program, is_barred, place, last_byte_for, written, programmed}
use Rattle.nor_base.specs.Programs.{Program, program_end, holds}
use Rattle.nor_base.specs.Operations.{laid}
use Rattle.nor_base.proofs.ArrayLaws.{length-each, slice_index-each, each_keeps, some-true}
use Rattle.nor_plan_laws.specs.Able.{IsInPage, MayLay, byte_for}

pub from_whole : (page start k : ℕ) → start % page ≡ 0 → k < page → (start + k) % page ≡ k
from_whole page start k whole fits =
    let none : 0 + k ≡ k = omega arith in
    sym (mod-add-mod start page k) ∙ ap (λ n. (n + k) % page) whole ∙ ap (λ n. n % page) none ∙ mod-eq_of_lt fits

-- it goes on without a wrap
place_straight : (page start address j : ℕ) → start % page ≡ 0 → start ≤ address → address + j < start + page → place page address j ≡ address + j
place_straight page start address j whole from fits =
    let at : start + (address - start) ≡ address = omega arith in
    let far : start + ((address - start) + j) ≡ address + j = omega arith in
    let first : address % page ≡ address - start =
    ap (λ n. n % page) (sym at) ∙ from_whole page start (address - start) whole (omega arith) in
    let this : (address + j) % page ≡ (address - start) + j =
    ap (λ n. n % page) (sym far) ∙ from_whole page start ((address - start) + j) whole (omega arith) in
    omega (arith, first, this)

-- of the first n bytes, each without a wrap, one goes to each address that they reach, and none to another
written_inside : (page address : ℕ) (bytes : List ℕ) (n x : ℕ) → ((j : ℕ) → j < n → place page address j ≡ address + j)
    → address ≤ x → x < address + n → last_byte_for page address bytes n x ≡ Some (slice_index bytes (x - address))
unfolding last_byte_for
written_inside page address bytes zero x straight from upto = absurd (omega arith)
written_inside page address bytes (suc n) x straight from upto = elim (cases_lt x (address + n)) [
  | inl below ↦
      rw (ne_eqb (place page address n) x (λ same. omega (arith, straight n (omega arith), same, below)))
      (written_inside page address bytes n x (λ j fits. straight j (omega arith)) from below)
  | inr past ↦
      let here : place page address n ≡ x = omega (arith, straight n (omega arith), past) in
      let far : n ≡ x - address = omega (arith, past) in
      rw (eq-eqb (place page address n) x here) (ap (λ k. Some (slice_index bytes k)) far)
]

written_outside : (page address : ℕ) (bytes : List ℕ) (n x : ℕ) → ((j : ℕ) → j < n → place page address j ≡ address + j)
    → (x < address) ⊎ (address + n ≤ x) → last_byte_for page address bytes n x ≡ None
unfolding last_byte_for
written_outside page address bytes zero x straight outside = refl
written_outside page address bytes (suc n) x straight outside =
    let apart : (place page address n ≡ x) → ⊥ = λ same.
    elim outside [ inl low ↦ omega (arith, straight n (omega arith), same) | inr high ↦ omega (arith, straight n (omega arith), same) ] in
    let outside' : (x < address) ⊎ (address + n ≤ x) = elim outside [ inl low ↦ inl low | inr high ↦ inr (omega (arith, high)) ] in
    rw (ne_eqb (place page address n) x apart) (written_outside page address bytes n x (λ j fits. straight j (omega arith)) outside')

straight : (page : ℕ) (p : Program) → IsInPage page p → (j : ℕ) → j < length p.bytes → place page p.at j ≡ p.at + j
straight page p h j fits = place_straight page h.page_start p.at j h.whole h.from (omega (arith, h.upto, fits))

-- an address that a program holds, or one that it doesn't
pub reached : (p : Program) (x : ℕ) → ((p.at ≤ x) × (x < program_end p)) ⊎ ((x < p.at) ⊎ (program_end p ≤ x))
reached p x = elim (cases_lt x p.at) [
  | inl low ↦ inr (inl low)
  | inr from ↦ elim (cases_lt x (program_end p)) [ inl upto ↦ inl (from, upto) | inr high ↦ inr (inr high) ]
]

pub holds_within : (p : Program) (x : ℕ) → p.at ≤ x → x < program_end p → holds x p ≡ true
holds_within p x from upto = rw (le-leb p.at x from) (le-leb (suc x) (program_end p) upto)

pub holds_outside : (p : Program) (x : ℕ) → (x < p.at) ⊎ (program_end p ≤ x) → holds x p ≡ false
holds_outside p x outside = elim outside [
  | inl low ↦ ap (λ b. b && nat_lt x (program_end p)) (lt-leb p.at x low)
  | inr high ↦ ap (λ b. nat_le p.at x && b) (le-ltb x (program_end p) high) ∙ and-false (nat_le p.at x)
]

writes_at : (page : ℕ) (p : Program) (x : ℕ) → IsInPage page p → p.at ≤ x → x < program_end p → written page p.at p.bytes x ≡ Some (byte_for p x)
writes_at page p x h from upto = written_inside page p.at p.bytes (length p.bytes) x (straight page p h) from upto

pub writes_nothing : (page : ℕ) (p : Program) (x : ℕ) → IsInPage page p → (x < p.at) ⊎ (program_end p ≤ x) → written page p.at p.bytes x ≡ None
writes_nothing page p x h outside = written_outside page p.at p.bytes (length p.bytes) x (straight page p h) outside

pub not_barred : (m : Parameters) (page : ℕ) (p : Program) (a : List ℕ) → IsInPage page p → MayLay m p a → is_barred m page p.at p.bytes a ≡ false
unfolding is_barred
not_barred m page p a h may = elim (cases_Bool (is_barred m page p.at p.bytes a)) [
  | inl bars ↦
      let found = some-true (λ x old. option_map_or (λ byte. not (may_program m old byte)) (written page p.at p.bytes x) false) a bars in
      let start : 0 + found.at ≡ found.at = omega arith in
      let here : option_map_or (λ byte. not (may_program m (slice_index a found.at) byte)) (written page p.at p.bytes found.at) false ≡ true =
      subst (λ x. option_map_or (λ byte. not (may_program m (slice_index a found.at) byte)) (written page p.at p.bytes x) false ≡ true) start found.passes in
      absurd (both_ways _ (none_at found.at) here)
  | inr none ↦ none
]
  where
    none_at : (x : ℕ) → option_map_or (λ byte. not (may_program m (slice_index a x) byte)) (written page p.at p.bytes x) false ≡ false
    none_at x = elim (reached p x) [
      | inl within ↦
          ap (λ o. option_map_or (λ byte. not (may_program m (slice_index a x) byte)) o false) (writes_at page p x h within.0 within.1)
          ∙ ap not (may x within.0 within.1)
      | inr outside ↦ ap (λ o. option_map_or (λ byte. not (may_program m (slice_index a x) byte)) o false) (writes_nothing page p x h outside)
    ]

-- within one page what a chip does is what the operation does
pub programmed_is_laid : (page : ℕ) (p : Program) (a : List ℕ) → IsInPage page p → programmed page p.at p.bytes a ≡ laid p a
unfolding programmed laid
programmed_is_laid page p a h =
    let size : length (programmed page p.at p.bytes a) ≡ length a = length-each _ a in
    ext_get_or 0 (programmed page p.at p.bytes a) (laid p a) (size ∙ sym (length-each _ a)) (λ x fits.
    let inside : x < length a = omega (arith, size, fits) in
    slice_index-each _ a x inside ∙ same_at x ∙ sym (slice_index-each _ a x inside))
  where
    same_at : (x : ℕ) → option_map_or (bit_and (slice_index a x)) (written page p.at p.bytes x) (slice_index a x)
        ≡ (if holds x p then bit_and (slice_index a x) (byte_for p x) else slice_index a x)
    same_at x = elim (reached p x) [
      | inl within ↦ rw (writes_at page p x h within.0 within.1, holds_within p x within.0 within.1) refl
      | inr outside ↦ rw (writes_nothing page p x h outside, holds_outside p x outside) refl
    ]

pub length-laid : (p : Program) (a : List ℕ) → length (laid p a) ≡ length a
unfolding laid
length-laid p a = length-each _ a

pub laid_keeps : (p : Program) (a : List ℕ) (x : ℕ) → (x < p.at) ⊎ (program_end p ≤ x) → slice_index (laid p a) x ≡ slice_index a x
unfolding laid
laid_keeps p a x outside = each_keeps _ a x (λ old. rw (holds_outside p x outside) refl)

and_full : (byte : ℕ) → byte < 256 → bit_and 255 byte ≡ byte
and_full byte small = and_comm 255 byte ∙ and_mask byte 8 ∙ mod-eq_of_lt small

-- each byte may be programmed over FFh
pub may_over_erased : (m : Parameters) (byte : ℕ) → byte < 256 → may_program m 255 byte ≡ true
may_over_erased m byte small = by_profile m.erased_only
  where
    by_profile : (b : Bool) → (if b then 255 == 255 else bit_and 255 byte == byte) ≡ true
    by_profile true = refl
    by_profile false = eq-eqb (bit_and 255 byte) byte (and_full byte small)

-- a byte that may be programmed is there afterwards
erased_and : (old byte : ℕ) → byte < 256 → old == 255 ≡ true → bit_and old byte ≡ byte
erased_and old byte small erased = rw (eqb-true old 255 erased) (and_full byte small)

pub may_gives : (m : Parameters) (old byte : ℕ) → byte < 256 → may_program m old byte ≡ true → bit_and old byte ≡ byte
may_gives m old byte small may = by_profile m.erased_only may
  where
    by_profile : (b : Bool) → (if b then old == 255 else bit_and old byte == byte) ≡ true → bit_and old byte ≡ byte
    by_profile true h = erased_and old byte small h
    by_profile false h = eqb-true (bit_and old byte) byte h

pub laid_gives : (m : Parameters) (p : Program) (a : List ℕ) (x : ℕ) → MayLay m p a → byte_for p x < 256 → x < length a → p.at ≤ x → x < program_end p
    → slice_index (laid p a) x ≡ byte_for p x
unfolding laid
laid_gives m p a x may small inside from upto =
    slice_index-each _ a x inside ∙ rw (holds_within p x from upto) (may_gives m (slice_index a x) (byte_for p x) small (may x from upto))
