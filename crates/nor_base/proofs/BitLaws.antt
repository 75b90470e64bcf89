-- How many clocks send bytes, and that each of some bytes is one.
use Rattle.std.proofs.Common.{◌≡◌, ℕ, ◌*◌, ◌<◌, true, List, [], ◌∷◌, length, refl, arith, length-append}
use Rattle.std.specs.Prelude.{flat_map, nat_lt}
use Rattle.std.proofs.lemmas.Bool.{and_parts, ltb-true}
use Rattle.nor_base.specs.Array.{are_bytes}
use Rattle.nor_base.specs.Clocks.{bits, nibbles}

pub length-bits : (byte : ℕ) → length (bits byte) ≡ 8
unfolding bits
length-bits byte = refl

pub length-nibbles : (byte : ℕ) → length (nibbles byte) ≡ 2
unfolding nibbles
length-nibbles byte = refl

-- eight clocks a byte, or two
pub length-all_bits : (bytes : List ℕ) → length (flat_map bits bytes) ≡ 8 * length bytes
length-all_bits [] = refl
length-all_bits (byte ∷ bytes) = let later = length-all_bits bytes in omega (arith, length-append (bits byte) (flat_map bits bytes), length-bits byte, later)

pub length-all_nibbles : (bytes : List ℕ) → length (flat_map nibbles bytes) ≡ 2 * length bytes
length-all_nibbles [] = refl
length-all_nibbles (byte ∷ bytes) =
    let later = length-all_nibbles bytes in omega (arith, length-append (nibbles byte) (flat_map nibbles bytes), length-nibbles byte, later)

-- the first of some bytes is one, and so are the others
pub first_byte : (byte : ℕ) (bytes : List ℕ) → are_bytes (byte ∷ bytes) ≡ true → byte < 256
first_byte byte bytes h = ltb-true byte 256 (and_parts (nat_lt byte 256) (are_bytes bytes) h).0

pub later_bytes : (byte : ℕ) (bytes : List ℕ) → are_bytes (byte ∷ bytes) ≡ true → are_bytes bytes ≡ true
later_bytes byte bytes h = (and_parts (nat_lt byte 256) (are_bytes bytes) h).1
