-- A program byte by byte, over those that aren't overwritten.
use Rattle.std.proofs.Common.{◌≡◌, ◌≢◌, ℕ, zero, suc, ◌+◌, ◌-◌, ◌<◌, ◌≤◌, ◌==◌, Bool, true, false, not, if◌then◌else◌, List, length, set, Option, Some, None, refl, sym, ◌∙◌, ap, subst, arith, inl, inr, eq-eqb, get_or-set_other, get_or-set_same}
use Rattle.std.specs.Prelude.{bit_and}
use Rattle.std.specs.List.{slice_index}
use Rattle.std.specs.Option.{option_map_or}
use Rattle.std.proofs.lemmas.Bool.{cases_lt}
use Rattle.std.proofs.lemmas.Bool.Decides.{eqb_tells}
use Rattle.std.proofs.lemmas.Grind.{and_numeral, same_number_lists}
use Rattle.std.proofs.lemmas.Nat.{and_comm}
use Rattle.std.proofs.Math.Nat.{mod-eq_of_lt}
use Rattle.std.proofs.Math.ListN.{length-set}
use Rattle.nor_base.specs.Parameters.{Parameters}
use Rattle.nor_base.specs.Effect.{place, last_byte_for, written, may_program, is_barred, programmed}
use Rattle.nor_base.proofs.ArrayLaws.{length-each, slice_index-each, some-true}
use Rattle.nor_laws.proofs.ProgramLaws.{IsLastOf, is_written, may_at}
use Rattle.nor_chip.proofs.PlaceLemmas.{place_again, places_apart}

none_step : (page address : ℕ) (bytes : List ℕ) (n x : ℕ) (b : Bool) → (place page address n == x) ≡ b
    → (last_byte_for page address bytes n x ≡ None → (i : ℕ) → i < n → place page address i ≢ x)
    → (if b then Some (slice_index bytes n) else last_byte_for page address bytes n x) ≡ None → (i : ℕ) → i < suc n → place page address i ≢ x
none_step page address bytes n x true is later h i fits = cc
none_step page address bytes n x false is later h i fits = elim (eqb_tells i n) [
  | inl same ↦ λ goes.
      let passes : (place page address n == x) ≡ true = eq-eqb (place page address n) x (ap (place page address) (sym same.1) ∙ goes) in
      let both : true ≡ false = sym passes ∙ is in cc
  | inr other ↦ let apart = other.1 in later h i (omega arith)
]

-- where nothing is written no byte goes
none_written : (page address : ℕ) (bytes : List ℕ) (n x : ℕ) → last_byte_for page address bytes n x ≡ None → (i : ℕ) → i < n → place page address i ≢ x
unfolding last_byte_for
none_written page address bytes zero x h i fits = absurd (omega arith)
none_written page address bytes (suc n) x h i fits =
    none_step page address bytes n x (place page address n == x) refl (none_written page address bytes n x) h i fits

-- of the last page's worth of bytes each is the last for its place, and no other is
kept_is_last : (page address n j : ℕ) → j < n → n - page ≤ j → IsLastOf page address n (place page address j) j
kept_is_last page address n j sent kept = record {
  sent = sent;
  here = refl;
  last = λ k later fits. places_apart page address j k later (omega arith);
}

last_is_kept : (page address n x j : ℕ) → 0 < page → IsLastOf page address n x j → n - page ≤ j
last_is_kept page address n x j some h = elim (cases_lt j (n - page)) [
  | inl early ↦ absurd (h.last (j + page) (omega arith) (omega arith) (place_again page address j ∙ h.here))
  | inr kept ↦ kept
]

-- over an erased byte any byte may be programmed
pub may_over_erased : (m : Parameters) (byte : ℕ) → byte < 256 → may_program m 255 byte ≡ true
may_over_erased m byte small = over m.erased_only refl
  where
    over : (b : Bool) → m.erased_only ≡ b → may_program m 255 byte ≡ true
    over true is = rw is refl
    over false is =
        let same : bit_and 255 byte ≡ byte = and_comm 255 byte ∙ and_numeral byte 254 refl ∙ mod-eq_of_lt small in
        rw is (eq-eqb (bit_and 255 byte) byte same)

-- each byte from the first kept one up to a place may be programmed where it goes
abbrev pub MayAllUpTo : Parameters → ℕ → ℕ → List ℕ → List ℕ → ℕ → Type 0
MayAllUpTo m page address bytes array upto = (i : ℕ) → length bytes - page ≤ i → i < upto
    → may_program m (slice_index array (place page address i)) (slice_index bytes i) ≡ true

pub may_more : (m : Parameters) (page address : ℕ) (bytes array : List ℕ) (j : ℕ) → MayAllUpTo m page address bytes array j
    → may_program m (slice_index array (place page address j)) (slice_index bytes j) ≡ true → MayAllUpTo m page address bytes array (j + 1)
may_more m page address bytes array j earlier here i from upto = elim (eqb_tells i j) [
  | inl same ↦ subst (λ k. may_program m (slice_index array (place page address k)) (slice_index bytes k) ≡ true) (sym same.1) here
  | inr other ↦ let apart = other.1 in earlier i from (omega arith)
]

bar_told_if : (m : Parameters) (page address : ℕ) (bytes array : List ℕ) (j : ℕ) (b : Bool) → is_barred m page address bytes array ≡ b → j < length bytes
    → length bytes - page ≤ j → place page address j < length array → may_program m (slice_index array (place page address j)) (slice_index bytes j) ≡ false
    → is_barred m page address bytes array ≡ true
bar_told_if m page address bytes array j true is sent kept inside bars = is
bar_told_if m page address bytes array j false is sent kept inside bars =
    let goes = kept_is_last page address (length bytes) j sent kept in
    let both : true ≡ false =
    sym (may_at m page address bytes array (place page address j) j inside (record { sent = goes.sent; here = goes.here; last = goes.last }) is) ∙ bars in cc

pub bar_told : (m : Parameters) (page address : ℕ) (bytes array : List ℕ) (j : ℕ) → j < length bytes → length bytes - page ≤ j → place page address j < length array
    → may_program m (slice_index array (place page address j)) (slice_index bytes j) ≡ false → is_barred m page address bytes array ≡ true
bar_told m page address bytes array j sent kept inside bars = bar_told_if m page address bytes array j (is_barred m page address bytes array) refl sent kept inside bars

no_bar_at : (m : Parameters) (page address : ℕ) (bytes array : List ℕ) (x : ℕ) (o : Option ℕ) → 0 < page → MayAllUpTo m page address bytes array (length bytes)
    → written page address bytes x ≡ o → option_map_or (λ byte. not (may_program m (slice_index array x) byte)) o false ≡ true → true ≡ false
no_bar_at m page address bytes array x None some may is h = sym h
no_bar_at m page address bytes array x (Some byte) some may is h =
    let found = is_written page address bytes (length bytes) x byte is in
    let kept = last_is_kept page address (length bytes) x found.j some found.is_last in
    let free : may_program m (slice_index array x) byte ≡ true =
    ap (λ a. may_program m (slice_index array a) byte) (sym found.is_last.here)
    ∙ ap (may_program m (slice_index array (place page address found.j))) found.byte_is ∙ may found.j kept found.is_last.sent in
    sym h ∙ ap not free

none_barred_if : (m : Parameters) (page address : ℕ) (bytes array : List ℕ) (b : Bool) → is_barred m page address bytes array ≡ b → 0 < page
    → MayAllUpTo m page address bytes array (length bytes) → is_barred m page address bytes array ≡ false
unfolding is_barred
none_barred_if m page address bytes array false is some may = is
none_barred_if m page address bytes array true is some may =
    let found = some-true (λ y old. option_map_or (λ byte. not (may_program m old byte)) (written page address bytes y) false) array is in
    let start : 0 + found.at ≡ found.at = omega arith in
    let passes = subst (λ x. option_map_or (λ byte. not (may_program m (slice_index array found.at) byte)) (written page address bytes x) false ≡ true) start found.passes in
    let both : true ≡ false = no_bar_at m page address bytes array found.at (written page address bytes found.at) some may refl passes in cc

pub none_barred : (m : Parameters) (page address : ℕ) (bytes array : List ℕ) → 0 < page → MayAllUpTo m page address bytes array (length bytes)
    → is_barred m page address bytes array ≡ false
none_barred m page address bytes array some may = none_barred_if m page address bytes array (is_barred m page address bytes array) refl some may

-- the bytes up to a place are written, and all else is as it was
pub record IsWrittenUpTo (page address : ℕ) (bytes old array : List ℕ) (upto : ℕ) : Type 0 where
  pub size : length array ≡ length old
  pub done : (i : ℕ) → length bytes - page ≤ i → i < upto
      → slice_index array (place page address i) ≡ bit_and (slice_index old (place page address i)) (slice_index bytes i)
  pub kept : (x : ℕ) → ((i : ℕ) → length bytes - page ≤ i → i < upto → place page address i ≢ x) → slice_index array x ≡ slice_index old x

set_here : (xs : List ℕ) (i v : ℕ) → i < length xs → slice_index (set xs i v) i ≡ v
set_here xs i v inside = rw get_or-set_same refl

set_elsewhere : (xs : List ℕ) (i v k : ℕ) → k ≢ i → slice_index (set xs i v) k ≡ slice_index xs k
set_elsewhere xs i v k apart = rw get_or-set_other refl

pub written_more : (page address : ℕ) (bytes old array : List ℕ) (j : ℕ) → length bytes - page ≤ j → j < length bytes → place page address j < length array
    → IsWrittenUpTo page address bytes old array j
    → IsWrittenUpTo page address bytes old (set array (place page address j) (bit_and (slice_index array (place page address j)) (slice_index bytes j))) (j + 1)
written_more page address bytes old array j first sent inside h = record {
  size = length-set array (place page address j) _ ∙ h.size;
  done = λ i from upto. elim (eqb_tells i j) [
    | inl same ↦
        let untouched : slice_index array (place page address j) ≡ slice_index old (place page address j) =
        h.kept (place page address j) (λ k after before goes. places_apart page address k j before (omega arith) (sym goes)) in
        subst (λ k. slice_index (set array (place page address j) (bit_and (slice_index array (place page address j)) (slice_index bytes j))) (place page address k)
        ≡ bit_and (slice_index old (place page address k)) (slice_index bytes k)) (sym same.1)
        (set_here array (place page address j) _ inside ∙ ap (λ a. bit_and a (slice_index bytes j)) untouched)
    | inr other ↦
        let apart = other.1 in
        let earlier : i < j = omega arith in
        set_elsewhere array (place page address j) _ (place page address i) (λ goes. places_apart page address i j earlier (omega arith) (sym goes))
        ∙ h.done i from earlier
  ];
  kept = λ x none.
      set_elsewhere array (place page address j) _ x (λ goes. none j first (omega arith) (sym goes))
      ∙ h.kept x (λ i from upto. none i from (omega arith));
}

programmed_at : (page address : ℕ) (bytes old array : List ℕ) (x : ℕ) (o : Option ℕ) → 0 < page → IsWrittenUpTo page address bytes old array (length bytes)
    → written page address bytes x ≡ o → slice_index array x ≡ option_map_or (bit_and (slice_index old x)) o (slice_index old x)
programmed_at page address bytes old array x None some h is = h.kept x (λ i from upto. none_written page address bytes (length bytes) x is i upto)
programmed_at page address bytes old array x (Some byte) some h is =
    let found = is_written page address bytes (length bytes) x byte is in
    let kept = last_is_kept page address (length bytes) x found.j some found.is_last in
    ap (slice_index array) (sym found.is_last.here) ∙ h.done found.j kept found.is_last.sent
    ∙ ap (λ a. bit_and (slice_index old a) (slice_index bytes found.j)) found.is_last.here ∙ ap (bit_and (slice_index old x)) (sym found.byte_is)

pub is_programmed : (page address : ℕ) (bytes old array : List ℕ) → 0 < page → IsWrittenUpTo page address bytes old array (length bytes)
    → array ≡ programmed page address bytes old
unfolding programmed
is_programmed page address bytes old array some h =
    same_number_lists array (programmed page address bytes old) (h.size ∙ sym (length-each _ old))
    (λ x fits. programmed_at page address bytes old array x (written page address bytes x) some h refl ∙ sym (slice_index-each _ old x (omega (arith, h.size))))
