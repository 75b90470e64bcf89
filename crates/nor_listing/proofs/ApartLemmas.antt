-- What stands at the front of two texts that are alike.
use Rattle.std.proofs.Common.{◌≡◌, ℕ, ◌+◌, ◌%◌, ◌^◌, ◌<◌, List, [], ◌∷◌, ◌++◌, length, refl, sym, ◌∙◌, ap, arith}
use Rattle.std.specs.Prelude.{decimal, flat_map}
use Rattle.std.specs.Int.{w32, to_be_bytes, from_be_bytes}
use Rattle.std.proofs.lemmas.Fmt.{decimal_by_steps, decimal_injective}
use Rattle.std.proofs.lemmas.Nat.{from_be_bytes-to_be_bytes_4}
use Rattle.nor_base.specs.Script.{hex_pair}
use Rattle.nor_laws.proofs.ScriptLaws.{Agree, Alike, None_is, Small, up_to, bytes_apart}
use Rattle.nor_script.specs.Hexadecimal.{hex_number}

none_append : (c : ℕ) (xs ys : List ℕ) → None_is c xs → None_is c ys → None_is c (xs ++ ys)
none_append c [] ys p q = q
none_append c (x ∷ xs) ys p q = (p.0, none_append c xs ys p.1 q)

-- what is below the digits isn't among them
none_in_decimal : (c n : ℕ) → c < 48 → n < 2 ^ 64 → None_is c (decimal n)
none_in_decimal c n low fits =
    decimal_by_steps (λ k ds. None_is c ds) (λ k small. ((λ same. omega (arith, same, low)), tt))
    (λ k ds big before. none_append c ds ((48 + k % 10) ∷ []) before ((λ same. omega (arith, same, low)), tt)) n fits

pub decimal_apart : (c m n : ℕ) (x y : List ℕ) → c < 48 → m < 2 ^ 64 → n < 2 ^ 64 → decimal m ++ c ∷ x ≡ decimal n ++ c ∷ y → Agree m n x y
decimal_apart c m n x y low p q h =
    let both = up_to c (decimal m) (decimal n) x y (none_in_decimal c m low p) (none_in_decimal c n low q) h in
    record { front = decimal_injective m n p q both.front; rest = both.rest }

-- of one length
pub same_length : (xs ys x y : List ℕ) → length xs ≡ length ys → xs ++ x ≡ ys ++ y → Alike xs ys x y
same_length [] [] x y long h = record { front = refl; rest = h }
same_length [] (b ∷ ys) x y long h = absurd (omega (arith, long))
same_length (a ∷ xs) [] x y long h = absurd (omega (arith, long))
same_length (a ∷ xs) (b ∷ ys) x y long h =
    let same : a ≡ b = cc in
    let tails : xs ++ x ≡ ys ++ y = cc in
    let later = same_length xs ys x y (omega (arith, long)) tails in
    record { front = ap (λ n. n ∷ xs) same ∙ ap (λ l. b ∷ l) later.front; rest = later.rest }

-- a number in eight digits
bytes_small : (n : ℕ) → Small (to_be_bytes w32 n)
bytes_small n = (omega arith, (omega arith, (omega arith, (omega arith, tt))))

eight_digits : (a b : ℕ) → length (flat_map hex_pair (to_be_bytes w32 a)) ≡ length (flat_map hex_pair (to_be_bytes w32 b))
eight_digits a b = refl

pub number_apart : (a b : ℕ) (x y : List ℕ) → a < 2 ^ 32 → b < 2 ^ 32 → hex_number a ++ x ≡ hex_number b ++ y → Agree a b x y
unfolding hex_number
number_apart a b x y p q h =
    let both = same_length (flat_map hex_pair (to_be_bytes w32 a)) (flat_map hex_pair (to_be_bytes w32 b)) x y (eight_digits a b) h in
    let bytes = bytes_apart (to_be_bytes w32 a) (to_be_bytes w32 b) [] [] (bytes_small a) (bytes_small b) (ap (λ l. l ++ 0x0A ∷ []) both.front) in
    record { front = sym (from_be_bytes-to_be_bytes_4 a p) ∙ ap (from_be_bytes w32) bytes.front ∙ from_be_bytes-to_be_bytes_4 b q; rest = both.rest }
