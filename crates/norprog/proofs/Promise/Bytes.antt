-- Lists of bytes, and their parts.
use Rattle.std.proofs.Common.{◌≡◌, ℕ, zero, suc, ◌-◌, true, List, [], ◌∷◌, take, drop, refl, arith}
use Rattle.std.specs.List.{slice_range}
use Rattle.std.proofs.lemmas.Bool.{lt-ltb}
use Rattle.nor_base.specs.Array.{are_bytes}
use Rattle.nor_job.specs.Written.{AreBytes}

pub all_small : (xs : List ℕ) → AreBytes xs → are_bytes xs ≡ true
all_small [] small = refl
all_small (x ∷ xs) small = rw (lt-ltb x 256 (small 0), all_small xs (λ k. small (suc k))) refl

pub small_take : (n : ℕ) (xs : List ℕ) → AreBytes xs → AreBytes (take n xs)
small_take zero xs small k = omega arith
small_take (suc n) [] small k = omega arith
small_take (suc n) (x ∷ xs) small zero = small 0
small_take (suc n) (x ∷ xs) small (suc k) = small_take n xs (λ i. small (suc i)) k

pub small_drop : (n : ℕ) (xs : List ℕ) → AreBytes xs → AreBytes (drop n xs)
small_drop zero xs small k = small k
small_drop (suc n) [] small k = omega arith
small_drop (suc n) (x ∷ xs) small k = small_drop n xs (λ i. small (suc i)) k

pub small_range : (low high : ℕ) (xs : List ℕ) → AreBytes xs → AreBytes (slice_range xs low high)
small_range low high xs small = small_take (high - low) (drop low xs) (small_drop low xs small)
