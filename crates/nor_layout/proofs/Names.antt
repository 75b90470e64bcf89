-- No region has an empty name.
use Rattle.std.proofs.Common.{◌≡◌, ◌∙◌, ℕ, ◌≤◌, Bool, true, false, not, cond, List, [], ◌∷◌, length, get_or, Some, None, ltb, refl, sym, ap, arith, Contains}
use Rattle.std.specs.List.{list_all, position_or_len}
use Rattle.std.specs.Str.{bytes_eq}
use Rattle.std.proofs.lemmas.List.Sums.{fails_before_first}
use Rattle.std.proofs.lemmas.Bool.{and_parts, ltb-false}
use Rattle.nor_base.specs.Array.{is_filled}
use Rattle.nor_layout.specs.Region.{Region, is_region}
use Rattle.nor_layout.specs.Line.{is_taken}
use Rattle.nor_layout.specs.Chosen.{first_unknown}

-- a search that finds no place
missed : (test : Bool) (place : ℕ) → None ≡ cond test (Some place) None → test ≡ false
missed true place e = cc
missed false place e = refl

filled_apart : (name : List ℕ) → is_filled name ≡ true → bytes_eq name [] ≡ false
filled_apart [] filled = sym filled
filled_apart (byte ∷ bytes) filled = refl

no_empty_name : (regions : List Region) → list_all is_region regions ≡ true → is_taken regions [] ≡ false
no_empty_name [] each = refl
no_empty_name (region ∷ regions) each =
    let both = and_parts (is_region region) (list_all is_region regions) each in
    let name = and_parts (is_filled region.name) _ both.0 in
    rw (filled_apart region.name name.0) (no_empty_name regions both.1)

-- an empty name is unknown
pub empty_unknown : (regions : List Region) (names : List (List ℕ)) → list_all is_region regions ≡ true → Contains names [] → first_unknown regions names ≡ None → ⊥
empty_unknown regions names each holds known =
    let past : length names ≤ position_or_len (λ name. not (is_taken regions name)) names =
    ltb-false _ _ (missed (ltb (position_or_len (λ name. not (is_taken regions name)) names) (length names)) (position_or_len (λ name. not (is_taken regions name)) names) (sym known)) in
    let taken : not (is_taken regions (get_or names holds.0 [])) ≡ false = fails_before_first (λ name. not (is_taken regions name)) names holds.0 [] (omega arith) in
    let here : not (is_taken regions []) ≡ false = ap (λ name. not (is_taken regions name)) (sym holds.2) ∙ taken in
    let free : not (is_taken regions []) ≡ true = ap not (no_empty_name regions each) in
    absurd (cc)
