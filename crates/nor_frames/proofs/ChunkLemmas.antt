-- The symbols of bytes in chunks and a rest are those of the bytes.
use borrow.Rule.Slice.PartMut.{put_mid}
use Rattle.std.proofs.Common.{◌≡◌, ℕ, zero, suc, ◌+◌, ◌*◌, ◌/◌, ◌<◌, ◌≤◌, List, [], ◌∷◌, ◌++◌, length, take, drop, get_or, sym, ◌∙◌, ap, arith}
use Rattle.std.specs.Prelude.{flat_map}
use Rattle.std.specs.Simd.{first_chunks}
use Rattle.std.proofs.lemmas.Grind.{flat_map-append}
use Rattle.std.proofs.Math.Seq.{take-suc}
use Rattle.std.proofs.lemmas.List.{append_assoc, append-nil, take_all, take-append-drop, drop-drop}
use Rattle.std.proofs.lemmas.Slice.{take-put_mid}

chunked : (f : ℕ → List ℕ) (n k : ℕ) (xs : List ℕ) → flat_map (flat_map f) (first_chunks n k xs) ++ flat_map f (drop (k * n) xs) ≡ flat_map f xs
chunked f n zero xs = let none : zero * n ≡ 0 = omega arith in ap (λ i. flat_map f (drop i xs)) none
chunked f n (suc k) xs =
    let more : suc k * n ≡ n + k * n = omega arith in
    let later : drop (suc k * n) xs ≡ drop (k * n) (drop n xs) = ap (λ i. drop i xs) more ∙ sym (drop-drop (k * n) n xs) in
    ap (λ rest. (flat_map f (take n xs) ++ flat_map (flat_map f) (first_chunks n k (drop n xs))) ++ flat_map f rest) later
    ∙ append_assoc (flat_map f (take n xs)) (flat_map (flat_map f) (first_chunks n k (drop n xs))) (flat_map f (drop (k * n) (drop n xs)))
    ∙ ap (λ rest. flat_map f (take n xs) ++ rest) (chunked f n k (drop n xs))
    ∙ sym (flat_map-append f (take n xs) (drop n xs))
    ∙ ap (flat_map f) (take-append-drop n xs)

pub spread_whole : (f : ℕ → List ℕ) (n : ℕ) (bytes : List ℕ) (chunks : List (List ℕ)) (rest front back : List ℕ) → front ≡ flat_map (flat_map f) chunks
    → back ≡ flat_map f rest → chunks ≡ first_chunks n (length bytes / n) bytes → rest ≡ drop (length bytes / n * n) bytes → front ++ back ≡ flat_map f bytes
spread_whole f n bytes chunks rest front back first second are left = rw (first, second, are, left) (chunked f n (length bytes / n) bytes)

-- the symbols of a chunk more are written
pub chunk_put : (f : ℕ → List ℕ) (j k : ℕ) (chunks : List (List ℕ)) (out part : List ℕ) → j < length chunks → 32 * j ≤ length out → length part ≡ 32
    → part ≡ flat_map f (get_or chunks j []) → take (32 * j) out ≡ flat_map (flat_map f) (take j chunks)
    → take (32 * (j + 1)) (put_mid (32 * j) k out part) ≡ flat_map (flat_map f) (take (j + 1) chunks)
chunk_put f j k chunks out part inside fits long is before =
    let next : j + 1 ≡ suc j = omega arith in
    let one = ap (flat_map (flat_map f)) (ap (λ n. take n chunks) next ∙ take-suc chunks j [] inside) ∙ flat_map-append (flat_map f) (take j chunks) (get_or chunks j [] ∷ []) in
    take-put_mid (32 * j) k out part (32 * (j + 1)) (omega arith) fits
    ∙ ap (λ front. front ++ part) before
    ∙ ap (λ last. flat_map (flat_map f) (take j chunks) ++ last) (is ∙ sym (append-nil (flat_map f (get_or chunks j []))))
    ∙ sym one

-- those of all are
pub chunks_done : (f : ℕ → List ℕ) (j : ℕ) (chunks : List (List ℕ)) (out : List ℕ) → length chunks ≤ j → length out ≡ 32 * j
    → take (32 * j) out ≡ flat_map (flat_map f) (take j chunks) → out ≡ flat_map (flat_map f) chunks
chunks_done f j chunks out past long before = sym (take_all (32 * j) out (omega (arith, long))) ∙ before ∙ ap (flat_map (flat_map f)) (take_all j chunks past)
