-- What data clocks send is bytes.
use Rattle.std.proofs.Common.{◌≡◌, ℕ, zero, suc, ◌+◌, ◌-◌, ◌<◌, ◌==◌, nat_le, Bool, true, false, ◌&&◌, if◌then◌else◌, List, [], ◌∷◌, None, Some, get_or, refl, arith}
use Rattle.std.specs.Option.{option_map_or}
use Rattle.std.proofs.lemmas.Bool.{and_parts, leb-true}
use Rattle.nor_base.specs.declared.clock.Sample.{Sample}
use Rattle.nor_base.specs.Instructions.{Form, nothing, sends, sends4, samples, samples4}
use Rattle.nor_base.specs.Sample.{IO0, IO1, IO2, IO3, all_lanes, bit_sample, nibble_sample}
use Rattle.nor_base.specs.Decoding.{nibble, bytes_of_bits, bytes_of_nibbles, bytes_sent}
use Rattle.nor_decode.proofs.NumberLemmas.{number_below}

-- the levels at a symbol, by which of the symbols it is
level_below : (byte : ℕ) (zero one nibbles dot equals dash : Bool) → nat_le 0x61 byte && nat_le byte 0x70 ≡ nibbles
    → option_map_or (λ s. s.level)
    (if zero then Some (bit_sample 0)
    else if one then Some (bit_sample IO0)
    else if nibbles then Some (nibble_sample (byte - 0x61))
    else if dot then Some (record { driven = IO2 + IO3; level = IO2 + IO3; sampled = IO1 })
    else if equals then Some (record { driven = 0; level = 0; sampled = all_lanes })
    else if dash then Some (record { driven = 0; level = 0; sampled = 0 })
    else None) 0 < 16
level_below byte true one nibbles dot equals dash is = omega arith
level_below byte false true nibbles dot equals dash is = omega arith
level_below byte false false true dot equals dash is = omega (arith, leb-true byte 0x70 (and_parts (nat_le 0x61 byte) (nat_le byte 0x70) is).1)
level_below byte false false false true equals dash is = omega arith
level_below byte false false false false true dash is = omega arith
level_below byte false false false false false true is = omega arith
level_below byte false false false false false false is = omega arith

nibble_below : (symbol : ℕ) → nibble symbol < 16
nibble_below symbol = level_below symbol (symbol == 0x30) (symbol == 0x31) (nat_le 0x61 symbol && nat_le symbol 0x70) (symbol == 0x2E) (symbol == 0x3D) (symbol == 0x2D) refl

bits_below : (xs : List ℕ) (i : ℕ) → get_or (bytes_of_bits xs) i 0 < 256
bits_below (a ∷ b ∷ c ∷ d ∷ e ∷ f ∷ g ∷ h ∷ more) zero = number_below (a ∷ b ∷ c ∷ d ∷ e ∷ f ∷ g ∷ h ∷ [])
bits_below (a ∷ b ∷ c ∷ d ∷ e ∷ f ∷ g ∷ h ∷ more) (suc i) = bits_below more i
bits_below fewer i = omega arith

nibbles_below : (xs : List ℕ) (i : ℕ) → get_or (bytes_of_nibbles xs) i 0 < 256
nibbles_below (high ∷ low ∷ more) zero = omega (arith, nibble_below high, nibble_below low)
nibbles_below (high ∷ low ∷ more) (suc i) = nibbles_below more i
nibbles_below fewer i = omega arith

-- also past the last byte
pub sent_below : (form : Form) (body : List ℕ) (i : ℕ) → get_or (bytes_sent form body) i 0 < 256
sent_below nothing body i = omega arith
sent_below sends body i = bits_below body i
sent_below sends4 body i = nibbles_below body i
sent_below samples body i = omega arith
sent_below samples4 body i = omega arith
