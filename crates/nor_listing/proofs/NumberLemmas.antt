-- The values of decimal digits.
use Rattle.std.proofs.Common.{◌≡◌, ℕ, ◌+◌, ◌*◌, ◌^◌, ◌<◌, ◌≤◌, true, ◌&&◌, List, length, take, get_or, Some, None, sym, ◌∙◌, ap, arith}
use Rattle.std.specs.Prelude.{nat_lt, if◌then◌else◌}
use Rattle.std.specs.List.{list_all}
use Rattle.std.specs.Char.{is_digit, digit_value}
use Rattle.std.specs.Str.Parse.{digits_value}
use Rattle.std.proofs.lemmas.Bool.{lt-ltb, le-ltb, and_right}
use Rattle.std.proofs.lemmas.Int.Digits.{digits_value_more}
use Rattle.std.proofs.lemmas.Str.Parse.{digits_value-take-le}
use Rattle.nor_listing.specs.Parts.{decimal_in}

-- digits of a value of 64 bits
pub below_64 : (ds : List ℕ) (v : ℕ) → list_all (λ c. is_digit c 10) ds ≡ true → v ≡ digits_value 10 ds → v < 2 ^ 64 → Some v ≡ decimal_in ds
below_64 ds v each value small =
    sym (ap (λ b. if b && nat_lt (digits_value 10 ds) (2 ^ 64) then Some (digits_value 10 ds) else None) each
    ∙ ap (λ w. if nat_lt w (2 ^ 64) then Some w else None) (sym value)
    ∙ ap (λ b. if b then Some v else None) (lt-ltb v (2 ^ 64) small))

-- a value past 64 bits is none
too_much : (ds : List ℕ) → 2 ^ 64 ≤ digits_value 10 ds → decimal_in ds ≡ None
too_much ds past =
    ap (λ b. if b then Some (digits_value 10 ds) else None)
    (and_right (list_all (λ c. is_digit c 10) ds) (nat_lt (digits_value 10 ds) (2 ^ 64)) (le-ltb (digits_value 10 ds) (2 ^ 64) past))

pub past_at : (ds : List ℕ) (i : ℕ) → i < length ds → 2 ^ 64 ≤ digits_value 10 (take i ds) * 10 + digit_value (get_or ds i 0) → decimal_in ds ≡ None
past_at ds i inside past =
    let more = digits_value_more 10 ds i inside in
    let whole = digits_value-take-le 10 ds (i + 1) (omega arith) in
    too_much ds (omega (arith, more, whole))

pub not_below : (m n : ℕ) → (m < n → ⊥) → n ≤ m
not_below m n never = grind (arith, never)
