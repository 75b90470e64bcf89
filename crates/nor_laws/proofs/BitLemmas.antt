-- What the clocks of bytes, of addresses and of data stand for.
use Rattle.std.proofs.Common.{◌≡◌, ℕ, zero, suc, ◌+◌, ◌*◌, ◌/◌, ◌%◌, ◌^◌, ◌<◌, ◌==◌, Bool, true, List, [], ◌∷◌, ◌++◌, length, refl, sym, ◌∙◌, ap, arith, eqb-true, length-append, pow-add}
use Rattle.std.specs.Prelude.{flat_map, nat_lt}
use Rattle.std.specs.List.{list_all}
use Rattle.std.proofs.Math.Arith.{mod-mul}
use Rattle.std.proofs.lemmas.Bool.{agree_below_at, lt-ltb}
use Rattle.std.proofs.lemmas.List.Folds.{list_all-append}
use Rattle.nor_base.specs.Array.{are_bytes}
use Rattle.nor_base.specs.Decoding.{is_bit_sent, is_nibble_sent, bit, nibble, number, bytes_of_bits, bytes_of_nibbles}
use Rattle.nor_base.specs.Clocks.{bits, nibbles, address_bytes}
use Rattle.nor_base.proofs.BitLaws.{length-all_bits, first_byte, later_bytes}

-- a byte's symbols stand for it
pub number_of_bits : (byte : ℕ) → byte < 256 → number (bits byte) ≡ byte
unfolding bits bit
number_of_bits byte h = eqb-true (number (bits byte)) byte (agree_below_at (λ n. number (bits n) == n) (λ n. true) 256 byte refl h)

-- each sends a bit
pub are_sent : (byte : ℕ) → byte < 256 → list_all is_bit_sent (bits byte) ≡ true
unfolding bits is_bit_sent
are_sent byte h = agree_below_at (λ n. list_all is_bit_sent (bits n)) (λ n. true) 256 byte refl h

-- the same on four lanes
number_of_nibbles : (byte : ℕ) → byte < 256 → bytes_of_nibbles (nibbles byte) ≡ byte ∷ []
unfolding nibbles
number_of_nibbles byte h = ap (λ n. n ∷ []) (eqb-true (16 * nibble (0x61 + byte / 16 % 16) + nibble (0x61 + byte % 16)) byte
    (agree_below_at (λ n. (16 * nibble (0x61 + n / 16 % 16) + nibble (0x61 + n % 16)) == n) (λ n. true) 256 byte refl h))

are_sent4 : (byte : ℕ) → byte < 256 → list_all is_nibble_sent (nibbles byte) ≡ true
unfolding nibbles is_nibble_sent
are_sent4 byte h = agree_below_at (λ n. list_all is_nibble_sent (nibbles n)) (λ n. true) 256 byte refl h

list_all_both : (p : ℕ → Bool) (xs ys : List ℕ) → list_all p xs ≡ true → list_all p ys ≡ true → list_all p (xs ++ ys) ≡ true
list_all_both p xs ys first second = list_all-append p xs ys ∙ (rw (first, second))

-- the clocks of bytes send bits, and stand for the bytes
pub all_sent : (bytes : List ℕ) → are_bytes bytes ≡ true → list_all is_bit_sent (flat_map bits bytes) ≡ true
all_sent [] small = refl
all_sent (byte ∷ bytes) small =
    list_all_both is_bit_sent (bits byte) (flat_map bits bytes) (are_sent byte (first_byte byte bytes small)) (all_sent bytes (later_bytes byte bytes small))

pub all_sent4 : (bytes : List ℕ) → are_bytes bytes ≡ true → list_all is_nibble_sent (flat_map nibbles bytes) ≡ true
all_sent4 [] small = refl
all_sent4 (byte ∷ bytes) small =
    list_all_both is_nibble_sent (nibbles byte) (flat_map nibbles bytes) (are_sent4 byte (first_byte byte bytes small)) (all_sent4 bytes (later_bytes byte bytes small))

pub bytes_of_all_bits : (bytes : List ℕ) → are_bytes bytes ≡ true → bytes_of_bits (flat_map bits bytes) ≡ bytes
unfolding bits
bytes_of_all_bits [] small = refl
bytes_of_all_bits (byte ∷ bytes) small =
    let first = number_of_bits byte (first_byte byte bytes small) in
    let later = bytes_of_all_bits bytes (later_bytes byte bytes small) in
    rw (first, later)

one_more_nibbles : (byte : ℕ) (rest : List ℕ) → bytes_of_nibbles (nibbles byte) ≡ byte ∷ [] → bytes_of_nibbles (nibbles byte ++ rest) ≡ byte ∷ bytes_of_nibbles rest
unfolding nibbles
one_more_nibbles byte rest h = ap (λ xs. xs ++ bytes_of_nibbles rest) h

pub bytes_of_all_nibbles : (bytes : List ℕ) → are_bytes bytes ≡ true → bytes_of_nibbles (flat_map nibbles bytes) ≡ bytes
bytes_of_all_nibbles [] small = refl
bytes_of_all_nibbles (byte ∷ bytes) small =
    let first = one_more_nibbles byte (flat_map nibbles bytes) (number_of_nibbles byte (first_byte byte bytes small)) in
    let later = bytes_of_all_nibbles bytes (later_bytes byte bytes small) in
    first ∙ ap (λ rest. byte ∷ rest) later

-- the number of the bits of one list and then another
pub number-append : (xs ys : List ℕ) → number (xs ++ ys) ≡ number xs * 2 ^ length ys + number ys
number-append [] ys = omega arith
number-append (x ∷ xs) ys =
    let later = number-append xs ys in
    let power : 2 ^ length (xs ++ ys) ≡ 2 ^ length xs * 2 ^ length ys = ap (λ n. 2 ^ n) (length-append xs ys) ∙ pow-add 2 (length xs) (length ys) in
    omega (arith, later, ap (λ p. bit x * p) power)

-- address bytes are bytes, so many, and their clocks stand for the address
pub address_small : (n address : ℕ) → are_bytes (address_bytes n address) ≡ true
address_small zero address = refl
address_small (suc n) address =
    let here : nat_lt ((address / 2 ^ (8 * n)) % 256) 256 ≡ true = lt-ltb ((address / 2 ^ (8 * n)) % 256) 256 (omega arith) in
    rw (here, address_small n address) refl

pub length-address_bytes : (n address : ℕ) → length (address_bytes n address) ≡ n
length-address_bytes zero address = refl
length-address_bytes (suc n) address = ap suc (length-address_bytes n address)

positive_power : (n : ℕ) → 0 < 2 ^ n
positive_power zero = omega arith
positive_power (suc n) = let below = positive_power n in omega arith

digit : (n address : ℕ) → ((address / 2 ^ (8 * n)) % 256) * 2 ^ (8 * n) + address % 2 ^ (8 * n) ≡ address % 2 ^ (8 * suc n)
digit n address =
    let split = mod-mul address {m = 256} {c = 2 ^ (8 * n)} (omega arith) (positive_power (8 * n)) in
    let power : 256 * 2 ^ (8 * n) ≡ 2 ^ (8 * suc n) = sym_power n in
    sym split ∙ ap (λ p. address % p) power
  where
    sym_power : (n : ℕ) → 256 * 2 ^ (8 * n) ≡ 2 ^ (8 * suc n)
    sym_power n = let sum : 8 * suc n ≡ 8 + 8 * n = omega arith in let whole = pow-add 2 8 (8 * n) in let same = ap (λ e. 2 ^ e) sum in cc

pub number_of_address : (n address : ℕ) → number (flat_map bits (address_bytes n address)) ≡ address % 2 ^ (8 * n)
number_of_address zero address = omega arith
number_of_address (suc n) address =
    let high = (address / 2 ^ (8 * n)) % 256 in
    let low = flat_map bits (address_bytes n address) in
    let parts = number-append (bits high) low in
    let first = number_of_bits high (omega arith) in
    let later = number_of_address n address in
    let long : length low ≡ 8 * n = length-all_bits (address_bytes n address) ∙ ap (λ k. 8 * k) (length-address_bytes n address) in
    let joined = digit n address in
    parts ∙ (rw (first, later, long) joined)
