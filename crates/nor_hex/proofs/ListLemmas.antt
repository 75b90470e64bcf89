-- Lemmas on lists by their places.
use Prim.Native.Nat.{zero}
use Rattle.std.proofs.lemmas.List.{length-take-le, length-drop}
use Rattle.std.proofs.lemmas.Bool.Decides.{eqb_tells}
use Rattle.std.proofs.Common.{◌≡◌, ◌≢◌, ◌⊎◌, inl, inr, true, false, nat_eq, ℕ, suc, ◌+◌, ◌<◌, ◌≤◌, List, [], ◌∷◌, ◌++◌, length, take, drop, slice_get, Option, Some, None, refl, sym, ap, ◌∙◌, arith}

pub some_same : {X : Type 0} (a b : X) (x : Option X) → x ≡ Some a → x ≡ Some b → a ≡ b
some_same a b x e f = cc

pub none_some : {X : Type 0} (a : X) (x : Option X) → x ≡ None → x ≡ Some a → ⊥
none_some a x e f = cc

-- an element stands below the length, and below it there is one
pub get-below : {X : Type 0} (xs : List X) (i : ℕ) (x : X) → slice_get xs i ≡ Some x → i < length xs
get-below [] i x e = absurd cc
get-below (y ∷ xs) zero x e = omega arith
get-below (y ∷ xs) (suc i) x e = omega (arith, get-below xs i x e)

pub get_there : {X : Type 0} (xs : List X) (i : ℕ) → i < length xs → (x : X) × (slice_get xs i ≡ Some x)
get_there [] i h = absurd (omega arith)
get_there (x ∷ xs) zero h = (x, refl)
get_there (x ∷ xs) (suc i) h = get_there xs i (omega arith)

-- ---- two lists one after the other
pub get-left : {X : Type 0} (xs ys : List X) (i : ℕ) (x : X) → slice_get xs i ≡ Some x → slice_get (xs ++ ys) i ≡ Some x
get-left [] ys i x e = absurd cc
get-left (y ∷ xs) ys zero x e = e
get-left (y ∷ xs) ys (suc i) x e = get-left xs ys i x e

pub get-left_back : {X : Type 0} (xs ys : List X) (i : ℕ) (x : X) → i < length xs → slice_get (xs ++ ys) i ≡ Some x → slice_get xs i ≡ Some x
get-left_back [] ys i x h e = absurd (omega arith)
get-left_back (y ∷ xs) ys zero x h e = e
get-left_back (y ∷ xs) ys (suc i) x h e = get-left_back xs ys i x (omega arith) e

pub get-right : {X : Type 0} (xs ys : List X) (i j : ℕ) → j ≡ length xs + i → slice_get (xs ++ ys) j ≡ slice_get ys i
get-right [] ys i j e = let same : j ≡ i = omega arith in ap (slice_get ys) same
get-right (y ∷ xs) ys i zero e = absurd (omega arith)
get-right (y ∷ xs) ys i (suc j) e = get-right xs ys i j (omega arith)

-- ---- a front and a rest
pub get-take : {X : Type 0} (xs : List X) (n i : ℕ) (x : X) → i < n → slice_get xs i ≡ Some x → slice_get (take n xs) i ≡ Some x
get-take xs zero i x h e = absurd (omega arith)
get-take [] (suc n) i x h e = absurd cc
get-take (y ∷ xs) (suc n) zero x h e = e
get-take (y ∷ xs) (suc n) (suc i) x h e = get-take xs n i x (omega arith) e

pub get_taken : {X : Type 0} (xs : List X) (n i : ℕ) (x : X) → slice_get (take n xs) i ≡ Some x → (i < n) × (slice_get xs i ≡ Some x)
get_taken xs zero i x e = absurd cc
get_taken [] (suc n) i x e = absurd cc
get_taken (y ∷ xs) (suc n) zero x e = (omega arith, e)
get_taken (y ∷ xs) (suc n) (suc i) x e = let found = get_taken xs n i x e in (omega (arith, found.0), found.1)

pub get-drop : {X : Type 0} (xs : List X) (d i j : ℕ) → j ≡ d + i → slice_get (drop d xs) i ≡ slice_get xs j
get-drop xs zero i j e = let same : i ≡ j = omega arith in ap (slice_get xs) same
get-drop [] (suc d) i j e = refl
get-drop (x ∷ xs) (suc d) i zero e = absurd (omega arith)
get-drop (x ∷ xs) (suc d) i (suc j) e = get-drop xs d i j (omega arith)

-- an element of a part
pub get_part : {X : Type 0} (xs : List X) (n d i j : ℕ) (x : X) → j ≡ d + i → slice_get (take n (drop d xs)) i ≡ Some x → (i < n) × (slice_get xs j ≡ Some x)
get_part xs n d i j x at e = let found = get_taken (drop d xs) n i x e in (found.0, sym (get-drop xs d i j at) ∙ found.1)

pub get-part : {X : Type 0} (xs : List X) (n d i j : ℕ) (x : X) → j ≡ d + i → i < n → slice_get xs j ≡ Some x → slice_get (take n (drop d xs)) i ≡ Some x
get-part xs n d i j x at h e = get-take (drop d xs) n i x h (get-drop xs d i j at ∙ e)

pub length-part : {X : Type 0} (xs : List X) (n d : ℕ) → d + n ≤ length xs → length (take n (drop d xs)) ≡ n
length-part xs n d h = length-take-le n (drop d xs) (omega (arith, length-drop d xs))

-- two lists of one length that are not equal differ at a place
pub differ_at : (xs ys : List ℕ) → length xs ≡ length ys → xs ≢ ys → (i : ℕ) × (a : ℕ) × (b : ℕ) × (slice_get xs i ≡ Some a) × (slice_get ys i ≡ Some b) × (a ≢ b)
differ_at [] [] e apart = absurd (apart refl)
differ_at [] (y ∷ ys) e apart = absurd (omega arith)
differ_at (x ∷ xs) [] e apart = absurd (omega arith)
differ_at (x ∷ xs) (y ∷ ys) e apart = by (eqb_tells x y) (differ_at xs ys (omega arith))
  where
    by : ((nat_eq x y ≡ true) × (x ≡ y)) ⊎ ((nat_eq x y ≡ false) × (x ≢ y)) → (xs ≢ ys → (i : ℕ) × (a : ℕ) × (b : ℕ) × (slice_get xs i ≡ Some a) × (slice_get ys i ≡ Some b) × (a ≢ b)) → (i : ℕ) × (a : ℕ) × (b : ℕ) × (slice_get (x ∷ xs) i ≡ Some a) × (slice_get (y ∷ ys) i ≡ Some b) × (a ≢ b)
    by (inl same) more = let found = more (λ f. apart (let g = same.1 in cc)) in (suc found.0, found.1, found.2, found.3, found.4, found.5)
    by (inr other) more = (0, x, y, refl, refl, other.1)

-- from a place on, the element there comes first
pub drop-here : {X : Type 0} (xs : List X) (i : ℕ) (x : X) → slice_get xs i ≡ Some x → drop i xs ≡ x ∷ drop (i + 1) xs
drop-here [] i x e = absurd cc
drop-here (y ∷ xs) zero x e = let same : y ≡ x = cc in ap (λ z. z ∷ xs) same
drop-here (y ∷ xs) (suc i) x e = let f : suc i + 1 ≡ suc (i + 1) = omega arith in rw f (drop-here xs i x e)

pub drop-left : {X : Type 0} (xs ys : List X) (n : ℕ) → n ≡ length xs → drop n (xs ++ ys) ≡ ys
drop-left [] ys zero e = refl
drop-left [] ys (suc n) e = absurd (omega arith)
drop-left (x ∷ xs) ys zero e = absurd (omega arith)
drop-left (x ∷ xs) ys (suc n) e = drop-left xs ys n (omega arith)
