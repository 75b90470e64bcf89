-- Words of another number than a form has.
use Rattle.std.proofs.Common.{◌≡◌, ◌≢◌, ◌≤◌, ℕ, Bool, true, ◌&&◌, ◌||◌, List, [], ◌∷◌, length, map, nat_le, Err, refl, ap, arith}
use Rattle.std.specs.List.{list_all, list_any}
use Rattle.nor_sheet.specs.declared.fault.LineFault.TheVariants.{Form}
use Rattle.std.proofs.lemmas.Bool.{and_parts, leb-true}
use Rattle.nor_sheet.specs.Limits.{is_kind}
use Rattle.nor_sheet.specs.Said.{erase_said, quad_read_said, region_said}

pub erase_form : (words : List (List ℕ)) → length words ≢ 4 → Err Form ≡ erase_said words
erase_form [] other = refl
erase_form (a ∷ []) other = refl
erase_form (a ∷ b ∷ []) other = refl
erase_form (a ∷ b ∷ c ∷ []) other = refl
erase_form (a ∷ b ∷ c ∷ d ∷ []) other = absurd (other (omega arith))
erase_form (a ∷ b ∷ c ∷ d ∷ e ∷ more) other = refl

pub quad_read_form : (words : List (List ℕ)) → length words ≢ 1 → length words ≢ 2 → Err Form ≡ quad_read_said words
quad_read_form [] one two = refl
quad_read_form (a ∷ []) one two = absurd (one (omega arith))
quad_read_form (a ∷ b ∷ []) one two = absurd (two (omega arith))
quad_read_form (a ∷ b ∷ c ∷ more) one two = refl

pub region_form : (words : List (List ℕ)) → length words ≢ 2 → Err Form ≡ region_said words
region_form [] other = refl
region_form (a ∷ []) other = refl
region_form (a ∷ b ∷ []) other = absurd (other (omega arith))
region_form (a ∷ b ∷ c ∷ more) other = refl

-- a test of what items show
pub any_shown : {A B : Type 0} (p : B → Bool) (v : A → B) (xs : List A) → list_any (λ x. p (v x)) xs ≡ list_any p (map v xs)
any_shown p v [] = refl
any_shown p v (x ∷ xs) = ap (λ b. p (v x) || b) (any_shown p v xs)

pub all_shown : {A B : Type 0} (p : B → Bool) (v : A → B) (xs : List A) → list_all (λ x. p (v x)) xs ≡ list_all p (map v xs)
all_shown p v [] = refl
all_shown p v (x ∷ xs) = ap (λ b. p (v x) && b) (all_shown p v xs)

pub kind_within : (k : ℕ) → is_kind k ≡ true → (1 ≤ k) × (k ≤ 4)
kind_within k is =
    let both = and_parts (nat_le 1 k) (nat_le k 4) is in
    (leb-true 1 k both.0, leb-true k 4 both.1)
