-- What a layout keeps of its regions, line by line.
use Rattle.std.proofs.Common.{◌≡◌, ◌∙◌, ℕ, ◌<◌, ◌^◌, ◌==◌, Bool, true, false, ◌&&◌, if◌then◌else◌, List, [], ◌∷◌, ◌++◌, length, get_or, Option, Some, None, Result, Ok, Err, refl, sym, subst, leb, ltb, arith, append-nil}
use Rattle.std.specs.List.{list_all, All, slice_split}
use Rattle.std.specs.Option.{option_to_list}
use Rattle.std.specs.Str.{bytes_eq}
use Rattle.std.specs.Char.{is_digit}
use Rattle.std.specs.Str.Parse.{digits_value}
use Rattle.std.proofs.lemmas.Bool.{and_parts, false_from_ne_true, leb-true, leb-false, lt-ltb}
use Rattle.std.proofs.lemmas.List.{length_push}
use Rattle.std.proofs.lemmas.List.Elements.{filter_passes}
use Rattle.std.proofs.lemmas.List.Folds.{list_all-append, list_any_at}
use Rattle.std.proofs.lemmas.List.Quantifiers.{all_pairs_push}
use Rattle.nor_layout.specs.declared.cause.Cause.{Cause}
use Rattle.nor_layout.specs.declared.cause.Cause.TheVariants.{EndBeforeStart, RepeatedName, TooMany}
use Rattle.nor_base.specs.Array.{is_filled}
use Rattle.nor_layout.specs.Region.{Region, is_region, AreRegions}
use Rattle.nor_layout.specs.Number.{digits_of, are_digits, number_of}
use Rattle.nor_layout.specs.Fields.{is_separator, fields_of, exactly_two}
use Rattle.nor_lines.specs.Lines.{without_first_blanks}
use Rattle.nor_layout.specs.Line.{region_between, region_of_offsets, region_of_fields, region_in, is_skipped, or_none, line_says, is_taken, said_below, line_below}
use Rattle.nor_layout.proofs.Digits.{value_fits}

number_bound : (digits : List ℕ) (test : Bool) (n : ℕ) → are_digits digits ≡ test → (if test then Some (digits_value 16 digits) else None) ≡ Some n → n < 2 ^ 32
number_bound digits true n is e =
    let outer = and_parts (leb 1 (length digits) && leb (length digits) 8) (list_all (λ c. is_digit c 16) digits) is in
    let inner = and_parts (leb 1 (length digits)) (leb (length digits) 8) outer.0 in
    let value : digits_value 16 digits ≡ n = cc in
    subst (λ x. x < 2 ^ 32) value (value_fits digits outer.1 (leb-true (length digits) 8 inner.1))
number_bound digits false n is e = cc

-- a number has 32 bits
number_fits : (text : List ℕ) (n : ℕ) → number_of text ≡ Some n → n < 2 ^ 32
number_fits text n e = number_bound (digits_of text) (are_digits (digits_of text)) n refl e

ordered : (test : Bool) (start end : ℕ) (name : List ℕ) (region : Region) → leb start end ≡ test → end < 2 ^ 32 → is_filled name ≡ true → (if test then Ok (record { start = start; end = end; name = name }) else Err EndBeforeStart) ≡ Ok region → is_region region ≡ true
ordered true start end name region is fits filled e =
    let bound : ltb end (2 ^ 32) ≡ true = lt-ltb end (2 ^ 32) fits in
    let same : record { start = start; end = end; name = name } ≡ region = cc in
    subst (λ r. is_region r ≡ true) same (rw (filled, is, bound) refl)
ordered false start end name region is fits filled e = cc

between : (name : List ℕ) (first last : Option ℕ) (region : Region) → is_filled name ≡ true → ((n : ℕ) → last ≡ Some n → n < 2 ^ 32) → region_between name first last ≡ Ok region → is_region region ≡ true
between name (Some start) (Some end) region filled fits e = ordered (leb start end) start end name region refl (fits end refl) filled e
between name (Some start) None region filled fits e = cc
between name None last region filled fits e = cc

of_offsets : (name : List ℕ) (offsets : Option (List ℕ × List ℕ)) (region : Region) → is_filled name ≡ true → region_of_offsets name offsets ≡ Ok region → is_region region ≡ true
of_offsets name None region filled e = cc
of_offsets name (Some offsets) region filled e = between name (number_of offsets.0) (number_of offsets.1) region filled (number_fits offsets.1) e

-- the second of exactly two fields that pass a test passes it
second_passes : (fields : List (List ℕ)) (two : List ℕ × List ℕ) → All (λ x. is_filled x ≡ true) fields → exactly_two fields ≡ Some two → is_filled two.1 ≡ true
second_passes [] two pass e = cc
second_passes (first ∷ []) two pass e = cc
second_passes (first ∷ second ∷ []) two pass e =
    let same : (first, second) ≡ two = cc in
    subst (λ (p : List ℕ × List ℕ). is_filled p.1 ≡ true) same (pass 1 [] (omega arith))
second_passes (first ∷ second ∷ third ∷ others) two pass e = cc

of_fields : (fields : List (List ℕ)) (two : Option (List ℕ × List ℕ)) (region : Region) → All (λ x. is_filled x ≡ true) fields → exactly_two fields ≡ two → region_of_fields two ≡ Ok region → is_region region ≡ true
of_fields fields None region pass is e = cc
of_fields fields (Some two) region pass is e = of_offsets two.1 (exactly_two (slice_split (λ byte. byte == 58) two.0)) region (second_passes fields two pass is) e

-- a line that spells a region spells one that is in order
spelled_region : (line : List ℕ) (region : Region) → region_in line ≡ Ok region → is_region region ≡ true
spelled_region line region e = of_fields (fields_of line) (exactly_two (fields_of line)) region (filter_passes is_filled (slice_split is_separator line)) refl e

from_or_none : (said : Result Region Cause) (region : Region) → or_none said ≡ Ok (Some region) → said ≡ Ok region
from_or_none (Ok other) region e = cc
from_or_none (Err cause) region e = cc

unskipped : (skipped : Bool) (line : List ℕ) (region : Region) → (if skipped then Ok None else or_none (region_in line)) ≡ Ok (Some region) → is_region region ≡ true
unskipped true line region e = cc
unskipped false line region e = spelled_region line region (from_or_none (region_in line) region e)

tests_passed : (taken many : Bool) (region : Region) (o : Option Region) → (if taken then Err RepeatedName else if many then Err TooMany else Ok (Some region)) ≡ Ok o → (taken ≡ false) × (many ≡ false) × (o ≡ Some region)
tests_passed true many region o e = cc
tests_passed false true region o e = cc
tests_passed false false region o e = (refl, refl, cc)

-- no region of this name: each has another
others_apart : (above : List Region) (name : List ℕ) → is_taken above name ≡ false → (k : ℕ) (d : Region) → k < length above → bytes_eq (get_or above k d).name name ≡ false
others_apart above name free k d within =
    false_from_ne_true (bytes_eq (get_or above k d).name name) (λ same.
    let taken : is_taken above name ≡ true = list_any_at (λ (region : Region). bytes_eq region.name name) above k d within same in
    absurd (cc))

-- one region more
pushed : (above : List Region) (region : Region) → AreRegions above → is_region region ≡ true → is_taken above region.name ≡ false → leb 255 (length above) ≡ false → AreRegions (above ++ region ∷ [])
pushed above region are in_order free few =
    record {
      each = list_all-append is_region above (region ∷ []) ∙ rw (are.each, in_order) refl;
      apart = all_pairs_push (λ (one other : Region). bytes_eq one.name other.name ≡ false) above region are.apart (others_apart above region.name free);
      few = omega (arith, length_push above region, leb-false 255 (length above) few);
    }

said_more : (above : List Region) (said : Result (Option Region) Cause) (o : Option Region) → ((region : Region) → said ≡ Ok (Some region) → is_region region ≡ true) → AreRegions above → said_below above said ≡ Ok o → AreRegions (above ++ option_to_list o)
said_more above (Err cause) o sound are e = cc
said_more above (Ok None) o sound are e =
    let none : None ≡ o = cc in
    subst (λ x. AreRegions (above ++ option_to_list x)) none (subst AreRegions (sym (append-nil above)) are)
said_more above (Ok (Some region)) o sound are e =
    let passed = tests_passed (is_taken above region.name) (leb 255 (length above)) region o e in
    subst (λ x. AreRegions (above ++ option_to_list x)) (sym passed.2) (pushed above region are (sound region refl) passed.0 passed.1)

-- one line more
pub regions_kept : (above : List Region) (line : List ℕ) (o : Option Region) → AreRegions above → Ok o ≡ line_below above line → AreRegions (above ++ option_to_list o)
regions_kept above line o are says = said_more above (line_says line) o (λ region e. unskipped (is_skipped (without_first_blanks line)) (without_first_blanks line) region e) are (sym says)
