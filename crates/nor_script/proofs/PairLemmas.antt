-- Bytes put for pairs of lower-case digits.
use Rattle.std.proofs.Common.{◌≡◌, ℕ, ◌*◌, ◌/◌, ◌%◌, true, List, length, take, sym, ◌∙◌, ap, arith, nat_eq}
use Rattle.std.specs.Prelude.{flat_map}
use Rattle.std.specs.List.{list_all}
use Rattle.std.proofs.lemmas.Bool.{and_parts}
use Rattle.std.proofs.lemmas.Bool.Decides.{nat_tests}
use Rattle.std.proofs.lemmas.List.{take_all}
use Rattle.nor_base.specs.Array.{are_bytes}
use Rattle.nor_base.specs.Script.{hex_pair}
use Rattle.nor_script.specs.Line.{is_lower_digit, are_pairs}
use Rattle.nor_script.specs.Parts.{SpellsBytes}

even_digits : (digits : List ℕ) → are_pairs digits ≡ true → length digits % 2 ≡ 0
even_digits digits pairs = let both = and_parts (nat_eq (length digits % 2) 0) (list_all is_lower_digit digits) pairs in grind (arith, nat_tests)

pub all_put : (digits bytes : List ℕ) (i : ℕ) → are_pairs digits ≡ true → length bytes ≡ length digits / 2 → i ≡ length bytes
    → (flat_map hex_pair (take i bytes) ≡ take (2 * i) digits) × (are_bytes (take i bytes) ≡ true) → SpellsBytes digits bytes
all_put digits bytes i pairs room end put =
    let even = even_digits digits pairs in
    let all : take i bytes ≡ bytes = take_all i bytes (omega arith) in
    record {
      spelled = sym (take_all (2 * i) digits (omega (arith, even))) ∙ (sym put.0 ∙ ap (flat_map hex_pair) all);
      small = sym (ap are_bytes all) ∙ put.1;
    }
