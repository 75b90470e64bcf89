-- The mask of eight lanes, the last symbol the lowest bit, is the number of their bits.
use Rattle.std.proofs.Common.{◌≡◌, ℕ, ◌+◌, ◌%◌, ◌<◌, ◌==◌, Bool, true, cond, List, [], ◌∷◌, length, slice_index_or, bit_and, bit_or, refl, ◌∙◌, arith, eqb-true}
use Rattle.std.specs.Simd.Lanes.{top, mask_l}
use Rattle.std.proofs.lemmas.Bool.{agree_below_at}
use Rattle.std.proofs.lemmas.Simd.{mask_l-mod}
use Rattle.nor_base.specs.Decoding.{bit, number}

-- what a lane gives: a bit that is high, and the nibbles with their lowest bit high
abbrev lane : ℕ → Bool
lane y = top 7 (bit_or (cond (y == 49) 255 0) (cond (bit_and ((y + 158) % 256) 241 == 0) 255 0))

lane_is : (y : ℕ) → y < 256 → cond (lane y) 1 0 ≡ bit y
unfolding bit
lane_is y h = eqb-true (cond (lane y) 1 0) (bit y) (agree_below_at (λ n. cond (lane n) 1 0 == bit n) (λ n. true) 256 y refl h)

-- the lanes of the first eight symbols, from the last
abbrev lanes : List ℕ → List Bool
lanes xs =
    (
    lane (slice_index_or xs 7 0)
    ∷ lane (slice_index_or xs 6 0)
    ∷ lane (slice_index_or xs 5 0)
    ∷ lane (slice_index_or xs 4 0)
    ∷ lane (slice_index_or xs 3 0)
    ∷ lane (slice_index_or xs 2 0)
    ∷ lane (slice_index_or xs 1 0)
    ∷ lane (slice_index_or xs 0 0)
    ∷ [])

number_is : (xs : List ℕ) → length xs ≡ 8 → ((k : ℕ) → slice_index_or xs k 0 < 256) → mask_l (lanes xs) ≡ number xs
number_is (a ∷ b ∷ c ∷ d ∷ e ∷ f ∷ g ∷ h ∷ []) long small =
    rw (
      lane_is a (small 0),
      lane_is b (small 1),
      lane_is c (small 2),
      lane_is d (small 3),
      lane_is e (small 4),
      lane_is f (small 5),
      lane_is g (small 6),
      lane_is h (small 7),
    ) (omega arith)
number_is other long small = absurd (omega arith)

pub mask_is : (xs : List ℕ) → length xs ≡ 8 → ((k : ℕ) → slice_index_or xs k 0 < 256) → mask_l (lanes xs) % 18446744073709551616 ≡ number xs
mask_is xs long small = mask_l-mod (lanes xs) 64 (omega arith) ∙ number_is xs long small
