-- A mask of lanes is 0 just where no lane passes.
use Rattle.std.proofs.Common.{◌≡◌, ℕ, zero, suc, ◌+◌, ◌*◌, ◌%◌, ◌^◌, ◌<◌, Bool, true, false, not, ◌||◌, ◌&&◌, eqb, List, [], ◌∷◌, length, bit_and, cond, replicate, refl, sym, ◌∙◌, ap, subst, arith}
use Rattle.std.specs.List.{list_any, zip}
use Rattle.std.specs.Simd.Lanes.{mask_l, sel_l, zip2}
use Rattle.std.proofs.lemmas.Simd.{mask_l-lt, length-zip2, length-sel_l}
use Rattle.std.proofs.Math.Nat.{mod-eq_of_lt}
use Rattle.nor_erase.specs.Bytes.{raises_bit, is_kept}

odd : (m : ℕ) → eqb (1 + 2 * m) 0 ≡ false
odd m = grind arith

even : (m : ℕ) → eqb (0 + 2 * m) 0 ≡ eqb m 0
even zero = refl
even (suc m) = grind arith

mask_some : (bs : List Bool) → not (eqb (mask_l bs) 0) ≡ list_any (λ b. b) bs
mask_some [] = refl
mask_some (true ∷ bs) = ap not (odd (mask_l bs))
mask_some (false ∷ bs) = ap not (even (mask_l bs)) ∙ mask_some bs

abbrev pub apart : ℕ → ℕ → Bool
apart a b = not (eqb a b)

any_apart : (hs ws : List ℕ) → list_any (λ b. b) (zip2 apart (zip2 bit_and hs ws) ws) ≡ list_any (λ pair. raises_bit pair.0 pair.1) (zip hs ws)
any_apart [] ws = refl
any_apart (h ∷ hs) [] = refl
any_apart (h ∷ hs) (w ∷ ws) = ap (λ b. not (eqb (bit_and h w) w) || b) (any_apart hs ws)

-- the answer of `any`: some of 32 lanes passes
mask_any : (bs : List Bool) → length bs ≡ 32 → not (eqb (mask_l bs % 18446744073709551616) 0) ≡ list_any (λ b. b) bs
mask_any bs long =
    let bound : mask_l bs < 2 ^ length bs = mask_l-lt bs in
    let small : mask_l bs < 2 ^ 32 = subst (λ n. mask_l bs < 2 ^ n) long bound in
    let same : mask_l bs % 18446744073709551616 ≡ mask_l bs = mod-eq_of_lt (omega arith) in
    ap (λ n. not (eqb n 0)) same ∙ mask_some bs

pub mask_tells : (hs ws : List ℕ) (bs : List Bool) → bs ≡ zip2 apart (zip2 bit_and hs ws) ws → length hs ≡ 32 → length ws ≡ 32
    → not (eqb (mask_l bs % 18446744073709551616) 0) ≡ list_any (λ pair. raises_bit pair.0 pair.1) (zip hs ws)
mask_tells hs ws bs is left right =
    let both : length (zip2 bit_and hs ws) ≡ length hs = length-zip2 bit_and hs ws (left ∙ sym right) in
    let pairs : length (zip2 apart (zip2 bit_and hs ws) ws) ≡ length (zip2 bit_and hs ws) = length-zip2 apart (zip2 bit_and hs ws) ws (both ∙ left ∙ sym right) in
    mask_any bs (ap (λ xs. length xs) is ∙ pairs ∙ both ∙ left) ∙ ap (list_any (λ b. b)) is ∙ any_apart hs ws

-- the lanes that differ keep their byte, the others become FFh
abbrev pub kept_lanes : List ℕ → List ℕ → ℕ → List ℕ
kept_lanes hs ws n = sel_l (zip2 apart hs ws) hs (replicate n 255)

kept_lane : (h : ℕ) (same : Bool) → apart (cond (not same) h 255) 255 ≡ not same && not (eqb h 255)
kept_lane h true = refl
kept_lane h false = refl

any_kept : (hs ws : List ℕ) (n : ℕ) → length hs ≡ n
    → list_any (λ b. b) (zip2 apart (kept_lanes hs ws n) (replicate n 255)) ≡ list_any (λ pair. is_kept pair.0 pair.1) (zip hs ws)
any_kept [] ws n long = refl
any_kept (h ∷ hs) [] n long = refl
any_kept (h ∷ hs) (w ∷ ws) zero long = cc
any_kept (h ∷ hs) (w ∷ ws) (suc n) long =
    ap (λ b. b || list_any (λ b. b) (zip2 apart (kept_lanes hs ws n) (replicate n 255))) (kept_lane h (eqb h w))
    ∙ ap (λ b. is_kept h w || b) (any_kept hs ws n (omega (arith, long)))

pub kept_tells : (hs ws : List ℕ) (ms bs : List Bool) → ms ≡ zip2 apart hs ws → bs ≡ zip2 apart (sel_l ms hs (replicate 32 255)) (replicate 32 255)
    → length hs ≡ 32 → length ws ≡ 32 → not (eqb (mask_l bs % 18446744073709551616) 0) ≡ list_any (λ pair. is_kept pair.0 pair.1) (zip hs ws)
kept_tells hs ws ms bs differ is left right =
    let full : length {A = ℕ} (replicate 32 255) ≡ 32 = refl in
    let lanes : length (zip2 apart hs ws) ≡ length hs = length-zip2 apart hs ws (left ∙ sym right) in
    let chosen : length (kept_lanes hs ws 32) ≡ length (zip2 apart hs ws) =
    length-sel_l (zip2 apart hs ws) hs (replicate 32 255) lanes (lanes ∙ left ∙ sym full) in
    let long32 : length (kept_lanes hs ws 32) ≡ 32 = chosen ∙ lanes ∙ left in
    let pairs : length (zip2 apart (kept_lanes hs ws 32) (replicate 32 255)) ≡ length (kept_lanes hs ws 32) =
    length-zip2 apart (kept_lanes hs ws 32) (replicate 32 255) (long32 ∙ sym full) in
    let whole : bs ≡ zip2 apart (kept_lanes hs ws 32) (replicate 32 255) =
    is ∙ ap (λ marks. zip2 apart (sel_l marks hs (replicate 32 255)) (replicate 32 255)) differ in
    mask_any bs (ap (λ xs. length xs) whole ∙ pairs ∙ long32) ∙ ap (list_any (λ b. b)) whole ∙ any_kept hs ws 32 left
