-- Bytes side by side in chunks and a rest pass where the bytes do.
use Rattle.std.proofs.Common.{◌≡◌, ℕ, zero, suc, ◌+◌, ◌*◌, ◌/◌, Bool, true, false, ◌||◌, List, [], ◌∷◌, length, take, drop, refl, sym, ◌∙◌, ap, arith}
use Rattle.std.specs.List.{list_any, zip}
use Rattle.std.specs.Simd.{first_chunks}
use Rattle.std.proofs.lemmas.List.{drop-drop}
use Rattle.nor_erase.specs.Bytes.{any_pair}

or_again : (a b c : Bool) → (a || b) || c ≡ a || (b || c)
or_again true b c = refl
or_again false b c = refl

none_left : (test : ℕ → ℕ → Bool) (xs : List ℕ) → any_pair test (xs, []) ≡ false
none_left test [] = refl
none_left test (x ∷ xs) = refl

parted : (test : ℕ → ℕ → Bool) (n : ℕ) (xs ys : List ℕ) → any_pair test (take n xs, take n ys) || any_pair test (drop n xs, drop n ys) ≡ any_pair test (xs, ys)
parted test zero xs ys = refl
parted test (suc n) [] ys = refl
parted test (suc n) (x ∷ xs) [] = none_left test (drop n xs)
parted test (suc n) (x ∷ xs) (y ∷ ys) =
    or_again (test x y) (any_pair test (take n xs, take n ys)) (any_pair test (drop n xs, drop n ys)) ∙ ap (λ b. test x y || b) (parted test n xs ys)

chunked : (test : ℕ → ℕ → Bool) (n k : ℕ) (xs ys : List ℕ)
    → list_any (any_pair test) (zip (first_chunks n k xs) (first_chunks n k ys)) || any_pair test (drop (k * n) xs, drop (k * n) ys) ≡ any_pair test (xs, ys)
chunked test n zero xs ys = let none : zero * n ≡ 0 = omega arith in ap (λ i. any_pair test (drop i xs, drop i ys)) none
chunked test n (suc k) xs ys =
    let more : suc k * n ≡ n + k * n = omega arith in
    let later : (zs : List ℕ) → drop (suc k * n) zs ≡ drop (k * n) (drop n zs) = λ zs. ap (λ i. drop i zs) more ∙ sym (drop-drop (k * n) n zs) in
    let first : Bool = any_pair test (take n xs, take n ys) in
    let inner : Bool = list_any (any_pair test) (zip (first_chunks n k (drop n xs)) (first_chunks n k (drop n ys))) in
    ap (λ rest. (first || inner) || any_pair test (rest, drop (suc k * n) ys)) (later xs)
    ∙ ap (λ rest. (first || inner) || any_pair test (drop (k * n) (drop n xs), rest)) (later ys)
    ∙ or_again first inner (any_pair test (drop (k * n) (drop n xs), drop (k * n) (drop n ys)))
    ∙ ap (λ b. first || b) (chunked test n k (drop n xs) (drop n ys))
    ∙ parted test n xs ys

-- what chunks and rests of two slices of one length give together
some_passes : (test : ℕ → ℕ → Bool) (n : ℕ) (have want : List ℕ) (old_chunks new_chunks : List (List ℕ)) (old_rest new_rest : List ℕ)
    → length have ≡ length want → old_chunks ≡ first_chunks n (length have / n) have → new_chunks ≡ first_chunks n (length want / n) want
    → old_rest ≡ drop (length have / n * n) have → new_rest ≡ drop (length want / n * n) want
    → list_any (any_pair test) (zip old_chunks new_chunks) || any_pair test (old_rest, new_rest) ≡ any_pair test (have, want)
some_passes test n have want old_chunks new_chunks old_rest new_rest long olds news old new =
    let news_too : new_chunks ≡ first_chunks n (length have / n) want = news ∙ ap (λ l. first_chunks n (l / n) want) (sym long) in
    let new_too : new_rest ≡ drop (length have / n * n) want = new ∙ ap (λ l. drop (l / n * n) want) (sym long) in
    rw (olds, old, news_too, new_too) (chunked test n (length have / n) have want)

pub some_chunk : (test : ℕ → ℕ → Bool) (n : ℕ) (have want : List ℕ) (old_chunks new_chunks : List (List ℕ)) (old_rest new_rest : List ℕ)
    → length have ≡ length want → old_chunks ≡ first_chunks n (length have / n) have → new_chunks ≡ first_chunks n (length want / n) want
    → old_rest ≡ drop (length have / n * n) have → new_rest ≡ drop (length want / n * n) want
    → true ≡ list_any (any_pair test) (zip old_chunks new_chunks) → true ≡ any_pair test (have, want)
some_chunk test n have want old_chunks new_chunks old_rest new_rest long olds news old new found =
    ap (λ b. b || any_pair test (old_rest, new_rest)) found ∙ some_passes test n have want old_chunks new_chunks old_rest new_rest long olds news old new

pub no_chunk : (test : ℕ → ℕ → Bool) (n : ℕ) (have want : List ℕ) (old_chunks new_chunks : List (List ℕ)) (old_rest new_rest : List ℕ) (result : Bool)
    → length have ≡ length want → old_chunks ≡ first_chunks n (length have / n) have → new_chunks ≡ first_chunks n (length want / n) want
    → old_rest ≡ drop (length have / n * n) have → new_rest ≡ drop (length want / n * n) want
    → false ≡ list_any (any_pair test) (zip old_chunks new_chunks) → result ≡ any_pair test (old_rest, new_rest) → result ≡ any_pair test (have, want)
no_chunk test n have want old_chunks new_chunks old_rest new_rest result long olds news old new none left =
    left ∙ ap (λ b. b || any_pair test (old_rest, new_rest)) none
    ∙ some_passes test n have want old_chunks new_chunks old_rest new_rest long olds news old new
