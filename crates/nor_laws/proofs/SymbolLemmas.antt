-- A clock of each sort is one symbol, or one of a few.
use Rattle.std.proofs.Common.{◌≡◌, ℕ, ◌+◌, ◌<◌, ◌==◌, ◌&&◌, ◌||◌, not, Bool, true, false, Option, Some, None, refl, subst, eqb-true}
use Rattle.std.specs.Prelude.{nat_lt, option_map}
use Rattle.std.specs.Option.{option_map_or}
use Rattle.std.proofs.lemmas.Bool.{agree_below_at, and_parts, ltb-true}
use Rattle.nor_base.specs.declared.clock.Clock.{Clock}
use Rattle.nor_base.specs.declared.clock.Sample.{Sample}
use Rattle.nor_base.specs.Sample.{clocks, symbol, clock_at, sample}
use Rattle.nor_base.specs.Decoding.{has_lanes, is_bit_sent, is_nibble_sent, is_bit_sampled, is_nibble_sampled, is_idle, bit, nibble}
use Rattle.nor_base.proofs.ListLaws.{found_passes}
use Rattle.nor_base.proofs.SymbolLaws.{by_clock}

-- a clock's symbol is below 128
symbol_small : (byte : ℕ) (clock : Clock) → clock_at byte ≡ Some clock → byte < 128
symbol_small byte clock h =
    let passes = found_passes (λ c. symbol c == byte) (λ c. nat_lt (symbol c) 128) clocks clock refl h in
    let same : symbol clock ≡ byte = eqb-true (symbol clock) byte passes.its in
    ltb-true byte 128 (subst (λ n. nat_lt n 128 ≡ true) same passes.all)

some_clock : (byte : ℕ) (test : Sample → Bool) (o : Option Clock) → clock_at byte ≡ o → option_map_or test (option_map sample o) false ≡ true → byte < 128
some_clock byte test None is h = cc
some_clock byte test (Some clock) is h = symbol_small byte clock is

lanes_small : (driven sampled byte : ℕ) → has_lanes driven sampled byte ≡ true → byte < 128
lanes_small driven sampled byte h =
    some_clock byte (λ sample. (sample.driven == driven) && (sample.sampled == sampled)) (clock_at byte) refl
    (subst (λ o. option_map_or (λ sample. (sample.driven == driven) && (sample.sampled == sampled)) o false ≡ true) (by_clock byte) h)

pub implied : (a b : Bool) → not a || b ≡ true → a ≡ true → b ≡ true
implied true b h is = h
implied false b h is = cc

-- a bit is one of two symbols, by its level
pub bit_is : (byte : ℕ) → is_bit_sent byte ≡ true → (byte ≡ 0x30 + bit byte) × (bit byte < 2)
unfolding is_bit_sent bit
bit_is byte h =
    let small = lanes_small 13 0 byte h in
    let agree = agree_below_at (λ n. not (is_bit_sent n) || ((n == 0x30 + bit n) && nat_lt (bit n) 2)) (λ n. true) 128 byte refl small in
    let parts = and_parts (byte == 0x30 + bit byte) (nat_lt (bit byte) 2) (implied (is_bit_sent byte) _ agree h) in
    (eqb-true byte (0x30 + bit byte) parts.0, ltb-true (bit byte) 2 parts.1)

-- a nibble is one of sixteen
pub nibble_is : (byte : ℕ) → is_nibble_sent byte ≡ true → (byte ≡ 0x61 + nibble byte) × (nibble byte < 16)
unfolding is_nibble_sent
nibble_is byte h =
    let small = lanes_small 15 0 byte h in
    let agree = agree_below_at (λ n. not (is_nibble_sent n) || ((n == 0x61 + nibble n) && nat_lt (nibble n) 16)) (λ n. true) 128 byte refl small in
    let parts = and_parts (byte == 0x61 + nibble byte) (nat_lt (nibble byte) 16) (implied (is_nibble_sent byte) _ agree h) in
    (eqb-true byte (0x61 + nibble byte) parts.0, ltb-true (nibble byte) 16 parts.1)

-- the other three sorts have one symbol each
pub bit_sampled_is : (byte : ℕ) → is_bit_sampled byte ≡ true → byte ≡ 0x2E
unfolding is_bit_sampled
bit_sampled_is byte h =
    let agree = agree_below_at (λ n. not (is_bit_sampled n) || (n == 0x2E)) (λ n. true) 128 byte refl (lanes_small 12 2 byte h) in
    eqb-true byte 0x2E (implied (is_bit_sampled byte) (byte == 0x2E) agree h)

pub nibble_sampled_is : (byte : ℕ) → is_nibble_sampled byte ≡ true → byte ≡ 0x3D
unfolding is_nibble_sampled
nibble_sampled_is byte h =
    let agree = agree_below_at (λ n. not (is_nibble_sampled n) || (n == 0x3D)) (λ n. true) 128 byte refl (lanes_small 0 15 byte h) in
    eqb-true byte 0x3D (implied (is_nibble_sampled byte) (byte == 0x3D) agree h)

pub idle_is : (byte : ℕ) → is_idle byte ≡ true → byte ≡ 0x2D
unfolding is_idle
idle_is byte h =
    let agree = agree_below_at (λ n. not (is_idle n) || (n == 0x2D)) (λ n. true) 128 byte refl (lanes_small 0 0 byte h) in
    eqb-true byte 0x2D (implied (is_idle byte) (byte == 0x2D) agree h)
