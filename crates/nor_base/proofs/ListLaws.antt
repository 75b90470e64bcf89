-- Lists: what holds of two parts, what is taken or left at one of the items, and what is found.
use Rattle.std.proofs.Common.{◌≡◌, ℕ, ◌+◌, ◌<◌, ◌≤◌, Bool, true, false, cond, List, [], ◌∷◌, ◌++◌, length, take, drop, get_or, Some, refl, sym, ◌∙◌, ap, subst}
use Rattle.std.specs.List.{AllByRecursion, list_all, find}
use Rattle.std.proofs.Math.Seq.{take-append-add}
use Rattle.std.proofs.lemmas.Bool.{and_parts}
use Rattle.std.proofs.lemmas.List.{take_more, drop_more, take-append-drop, take-append-le, length-take-le}
use borrow.Rule.Slice.PartMut.{put_mid, post_of}

pub all_append : {A : Type 0} (P : A → Type 0) (xs ys : List A) → AllByRecursion P xs → AllByRecursion P ys → AllByRecursion P (xs ++ ys)
all_append P [] ys first second = second
all_append P (x ∷ xs) ys first second = (first.0, all_append P xs ys first.1 second)

pub one_taken : {A : Type 0} (xs : List A) (at : ℕ) (x : A) → at < length xs → x ≡ get_or xs at x → take (at + 1) xs ≡ take at xs ++ x ∷ []
one_taken xs at x within is = take_more xs at x within ∙ ap (λ y. take at xs ++ y ∷ []) (sym is)

pub first_left : {A : Type 0} (xs : List A) (at : ℕ) (x : A) → x ≡ get_or xs at x → at < length xs → drop at xs ≡ x ∷ drop (at + 1) xs
first_left xs at x is within = drop_more xs at x within ∙ ap (λ y. y ∷ drop (at + 1) xs) (sym is)

-- the front of a front
pub shorter_front : (xs : List ℕ) (n m : ℕ) → n ≤ length (take m xs) → take n (take m xs) ≡ take n xs
shorter_front xs n m fits =
    sym (take-append-le n (take m xs) (drop m xs) fits) ∙ ap (take n) (take-append-drop m xs)

-- the front up to within a part that was put in
pub front_and_part : (xs ys : List ℕ) (a k n : ℕ) → a ≤ length xs → n ≤ length ys → take (a + n) (put_mid a k xs ys) ≡ take a xs ++ take n ys
front_and_part xs ys a k n a_fits n_fits =
    let whole : length (take a xs) ≡ a = length-take-le a xs a_fits in
    ap (λ m. take (m + n) (put_mid a k xs ys)) (sym whole)
    ∙ take-append-add (take a xs) (ys ++ post_of a k xs) n
    ∙ ap (λ part. take a xs ++ part) (take-append-le n ys (post_of a k xs) n_fits)

-- what is found passes the test, and each that all pass
pub record Passes {A : Type 0} (p q : A → Bool) (y : A) : Type 0 where
  pub its : p y ≡ true
  pub all : q y ≡ true

found_step : {A : Type 0} (p q : A → Bool) (x y : A) (xs : List A) (b : Bool) → p x ≡ b → q x ≡ true → (find p xs ≡ Some y → Passes p q y)
    → cond b (Some x) (find p xs) ≡ Some y → Passes p q y
found_step p q x y xs true is whole later h = let same : x ≡ y = cc in subst (Passes p q) same (record { its = is; all = whole })
found_step p q x y xs false is whole later h = later h

pub found_passes : {A : Type 0} (p q : A → Bool) (xs : List A) (y : A) → list_all q xs ≡ true → find p xs ≡ Some y → Passes p q y
found_passes p q [] y whole h = cc
found_passes p q (x ∷ xs) y whole h =
    let parts = and_parts (q x) (list_all q xs) whole in
    found_step p q x y xs (p x) refl parts.0 (found_passes p q xs y parts.1) h
