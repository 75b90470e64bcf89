-- What holds of each element of lists joined, and what is counted.
use Rattle.std.proofs.Common.{◌≡◌, ℕ, ◌+◌, Bool, true, false, ◌||◌, cond, List, [], ◌∷◌, map, refl, sym, ◌∙◌, ap, arith}
use Rattle.std.specs.Prelude.{flat_map}
use Rattle.std.specs.List.{AllByRecursion, list_any, count_by, sum_by}
use Rattle.std.proofs.lemmas.List.Sums.{sum_by-cons, sum_by-append}
use Rattle.nor_base.proofs.ListLaws.{all_append}

pub all_flat : {A B : Type 0} (P : B → Type 0) (f : A → List B) (xs : List A) → AllByRecursion (λ x. AllByRecursion P (f x)) xs → AllByRecursion P (flat_map f xs)
all_flat P f [] all = tt
all_flat P f (x ∷ xs) all = all_append P (f x) (flat_map f xs) all.0 (all_flat P f xs all.1)

pub all_of : {A B : Type 0} (P : B → Type 0) (f : A → B) → ((x : A) → P (f x)) → (xs : List A) → AllByRecursion P (map f xs)
all_of P f each [] = tt
all_of P f each (x ∷ xs) = (each x, all_of P f each xs)

pub all_each : {A : Type 0} (P Q : A → Type 0) → ((x : A) → P x → Q x) → (xs : List A) → AllByRecursion P xs → AllByRecursion Q xs
all_each P Q each [] all = tt
all_each P Q each (x ∷ xs) all = (each x all.0, all_each P Q each xs all.1)

-- what isn't counted isn't there
none_first : {A : Type 0} (test : A → Bool) (x : A) (xs : List A) (b : Bool) → test x ≡ b → (count_by test xs ≡ 0 → list_any test xs ≡ false) → count_by test (x ∷ xs) ≡ 0
    → test x || list_any test xs ≡ false
none_first test x xs true is later none =
    let one : count_by test (x ∷ xs) ≡ 1 + count_by test xs = sum_by-cons (λ y. cond (test y) 1 0) x xs ∙ ap (λ b. cond b 1 0 + count_by test xs) is in
    absurd (omega (arith, one, none))
none_first test x xs false is later none =
    let same : count_by test (x ∷ xs) ≡ 0 + count_by test xs = sum_by-cons (λ y. cond (test y) 1 0) x xs ∙ ap (λ b. cond b 1 0 + count_by test xs) is in
    ap (λ b. b || list_any test xs) is ∙ later (omega (arith, same, none))

pub any_none : {A : Type 0} (test : A → Bool) (xs : List A) → count_by test xs ≡ 0 → list_any test xs ≡ false
any_none test [] none = refl
any_none test (x ∷ xs) none = none_first test x xs (test x) refl (any_none test xs) none

pub sum_flat : {A B : Type 0} (g : B → ℕ) (f : A → List B) (xs : List A) → sum_by g (flat_map f xs) ≡ sum_by (λ x. sum_by g (f x)) xs
sum_flat g f [] = refl
sum_flat g f (x ∷ xs) =
    sum_by-append g (f x) (flat_map f xs) ∙ ap (λ k. sum_by g (f x) + k) (sum_flat g f xs) ∙ sym (sum_by-cons (λ y. sum_by g (f y)) x xs)

pub sum_same : {A : Type 0} (g h : A → ℕ) → ((x : A) → g x ≡ h x) → (xs : List A) → sum_by g xs ≡ sum_by h xs
sum_same g h each [] = refl
sum_same g h each (x ∷ xs) = sum_by-cons g x xs ∙ ap (λ k. k + sum_by g xs) (each x) ∙ ap (λ k. h x + k) (sum_same g h each xs) ∙ sym (sum_by-cons h x xs)
