-- The lanes of the kernels are the symbols of their bytes.
use Rattle.std.proofs.Common.{◌≡◌, ℕ, zero, suc, ◌+◌, ◌/◌, ◌%◌, ◌<◌, ◌==◌, true, List, [], ◌∷◌, ◌++◌, length, drop, refl, sym, ◌∙◌, ap, arith, eqb-true, slice_index_or, bit_and}
use Rattle.std.specs.Prelude.{flat_map}
use Rattle.std.proofs.Math.Seq.{drop-cons}
use Rattle.std.proofs.Math.ListN.{drop_of_length-le}
use Rattle.std.proofs.lemmas.Bool.{agree_below_at}
use Rattle.nor_base.specs.Clocks.{bits, nibbles}

-- a lane of one bit, and one of a nibble
abbrev bit_lane : ℕ → ℕ
bit_lane y = (bit_and y 1 + 48) % 256

abbrev nibble_lane : ℕ → ℕ
nibble_lane y = (bit_and y 15 + 97) % 256

bit_lane_is : (y : ℕ) → y < 256 → bit_lane y ≡ 0x30 + y % 2
bit_lane_is y h = eqb-true (bit_lane y) (0x30 + y % 2) (agree_below_at (λ n. bit_lane n == 0x30 + n % 2) (λ n. true) 256 y refl h)

nibble_lane_is : (y : ℕ) → y < 256 → nibble_lane y ≡ 0x61 + y % 16
nibble_lane_is y h = eqb-true (nibble_lane y) (0x61 + y % 16) (agree_below_at (λ n. nibble_lane n == 0x61 + n % 16) (λ n. true) 256 y refl h)

abbrev bit_lanes : ℕ → List ℕ
bit_lanes x =
    bit_lane (x / 128) ∷ bit_lane (x / 64) ∷ bit_lane (x / 32) ∷ bit_lane (x / 16) ∷ bit_lane (x / 8) ∷ bit_lane (x / 4) ∷ bit_lane (x / 2) ∷ bit_lane (x / 1) ∷ []

abbrev nibble_lanes : ℕ → List ℕ
nibble_lanes x = nibble_lane (x / 16) ∷ nibble_lane (x / 1) ∷ []

bit_lanes_are : (x : ℕ) → x < 256 → bit_lanes x ≡ bits x
unfolding bits
bit_lanes_are x h =
    rw (
      bit_lane_is (x / 128) (omega arith),
      bit_lane_is (x / 64) (omega arith),
      bit_lane_is (x / 32) (omega arith),
      bit_lane_is (x / 16) (omega arith),
      bit_lane_is (x / 8) (omega arith),
      bit_lane_is (x / 4) (omega arith),
      bit_lane_is (x / 2) (omega arith),
      bit_lane_is (x / 1) (omega arith),
    ) refl

nibble_lanes_are : (x : ℕ) → x < 256 → nibble_lanes x ≡ nibbles x
unfolding nibbles
nibble_lanes_are x h = let one : x / 1 ≡ x = omega arith in
    rw (nibble_lane_is (x / 16) (omega arith), nibble_lane_is (x / 1) (omega arith), one) refl

-- the lanes of the first n of some bytes
abbrev lanes_of : (ℕ → List ℕ) → List ℕ → List ℕ
lanes_of lanes [] = []
lanes_of lanes (x ∷ xs) = lanes x ++ lanes_of lanes xs

lanes_are : (lanes symbols : ℕ → List ℕ) → ((x : ℕ) → x < 256 → lanes x ≡ symbols x) → (xs : List ℕ) → ((k : ℕ) → slice_index_or xs k 0 < 256)
    → lanes_of lanes xs ≡ flat_map symbols xs
lanes_are lanes symbols same [] small = refl
lanes_are lanes symbols same (x ∷ xs) small = rw (same x (small 0), lanes_are lanes symbols same xs (λ k. small (suc k))) refl

-- so many of some bytes, from one on
abbrev cells : List ℕ → ℕ → ℕ → List ℕ
cells xs k zero = []
cells xs k (suc n) = slice_index_or xs k 0 ∷ cells xs (suc k) n

cells_are : (xs : List ℕ) (k n : ℕ) → length xs ≡ k + n → cells xs k n ≡ drop k xs
cells_are xs k zero long = sym (drop_of_length-le xs (omega (arith, long)))
cells_are xs k (suc n) long =
    let first = drop-cons xs k 0 (omega (arith, long)) in
    let later = cells_are xs (suc k) n (omega (arith, long)) in
    ap (λ rest. slice_index_or xs k 0 ∷ rest) later ∙ sym first

pub four_bytes : (xs : List ℕ) → length xs ≡ 4 → ((k : ℕ) → slice_index_or xs k 0 < 256) → lanes_of bit_lanes (cells xs 0 4) ≡ flat_map bits xs
four_bytes xs long small = ap (lanes_of bit_lanes) (cells_are xs 0 4 long) ∙ lanes_are bit_lanes bits bit_lanes_are xs small

pub sixteen_bytes : (xs : List ℕ) → length xs ≡ 16 → ((k : ℕ) → slice_index_or xs k 0 < 256) → lanes_of nibble_lanes (cells xs 0 16) ≡ flat_map nibbles xs
sixteen_bytes xs long small = ap (lanes_of nibble_lanes) (cells_are xs 0 16 long) ∙ lanes_are nibble_lanes nibbles nibble_lanes_are xs small
