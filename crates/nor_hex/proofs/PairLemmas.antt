-- Lemmas on bytes as pairs of hexadecimal digits.
use Prim.Native.Nat.{zero}
use Rattle.std.proofs.Math.Seq.{take-suc, take-suc-set}
use Rattle.std.proofs.lemmas.List.Sums.{sum_by_more}
use Rattle.std.proofs.Common.{◌≡◌, ℕ, suc, sum, ◌%◌, take, ◌+◌, ◌*◌, ◌/◌, ◌<◌, Bool, true, false, ◌&&◌, List, [], ◌∷◌, length, slice_index, refl, set, arith}
use Rattle.std.specs.List.{list_all}
use Rattle.nor_hex.specs.Record.{pair_bytes, digit}

-- as many bytes as pairs
pub length-pair_bytes : (digits : List ℕ) → length (pair_bytes digits) ≡ length digits / 2
length-pair_bytes [] = refl
length-pair_bytes (a ∷ []) = refl
length-pair_bytes (a ∷ b ∷ rest) = omega (arith, length-pair_bytes rest)

-- the byte at a place is spelled by the pair there
pub pair_bytes-at : (digits : List ℕ) (i : ℕ) → i < length digits / 2 → slice_index (pair_bytes digits) i ≡ digit (slice_index digits (2 * i)) * 16 + digit (slice_index digits (2 * i + 1))
pair_bytes-at [] i h = absurd (omega arith)
pair_bytes-at (a ∷ []) i h = absurd (omega arith)
pair_bytes-at (a ∷ b ∷ rest) zero h = refl
pair_bytes-at (a ∷ b ∷ rest) (suc i) h =
    let e : 2 * suc i ≡ suc (suc (2 * i)) = omega arith in
    let f : 2 * suc i + 1 ≡ suc (suc (2 * i + 1)) = omega arith in
    rw (f, e) (pair_bytes-at rest i (omega arith))

-- both of two tests
pub both : (a b : Bool) → (a && b) ≡ true → (a ≡ true) × (b ≡ true)
both true b e = (refl, e)
both false b e = absurd cc

-- each element of a list that passes
pub passes_at : (test : ℕ → Bool) (xs : List ℕ) (i : ℕ) → list_all test xs ≡ true → i < length xs → test (slice_index xs i) ≡ true
passes_at test [] i all h = absurd (omega arith)
passes_at test (x ∷ xs) zero all h = (both (test x) (list_all test xs) all).0
passes_at test (x ∷ xs) (suc i) all h = passes_at test xs i (both (test x) (list_all test xs) all).1 (omega arith)

-- one more byte in a sum modulo 256
pub sum_step : (bytes : List ℕ) (i sum_so_far byte : ℕ) → i < length bytes → sum_so_far ≡ sum (take i bytes) % 256 → byte ≡ slice_index bytes i → (sum_so_far + byte) % 256 ≡ sum (take (i + 1) bytes) % 256
sum_step bytes i sum_so_far byte below so_far this =
    let more : sum (take (i + 1) bytes) ≡ sum (take i bytes) + slice_index bytes i = sum_by_more (λ x. x) bytes i 0 below in
    rw (more, so_far, this) (mod_sum (sum (take i bytes)) (slice_index bytes i))
  where
    mod_sum : (a b : ℕ) → (a % 256 + b) % 256 ≡ (a + b) % 256
    mod_sum a b = omega arith

-- one more byte that was decoded
pub decode_step : (all bytes : List ℕ) (i byte : ℕ) → i < length all → i < length bytes → take i bytes ≡ take i all → byte ≡ slice_index all i → take (i + 1) (set bytes i byte) ≡ take (i + 1) all
decode_step all bytes i byte below inside so_far this =
    let e : i + 1 ≡ suc i = omega arith in
    rw (e, take-suc-set bytes i byte inside, take-suc all i 0 below, so_far, this) refl
