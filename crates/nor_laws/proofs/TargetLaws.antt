-- The bytes of a target.
use Rattle.std.proofs.Common.{◌≡◌, ◌⊎◌, ℕ, suc, ◌+◌, ◌^◌, ◌<◌, ◌≤◌, nat_lt, Bool, true, false, ◌&&◌, if◌then◌else◌, List, length, Option, Some, None, refl, ◌∙◌, inl, inr, le-leb}
use Rattle.std.proofs.Math.Bool.{and-false}
use Rattle.std.specs.List.{slice_index}
use Rattle.std.proofs.lemmas.Bool.{le-ltb}
use Rattle.nor_base.specs.Target.{target, target_byte}
use Rattle.nor_base.proofs.ArrayLaws.{each_keeps, slice_index-each}

same_either_way : (b : Bool) (x : ℕ) → (if b then x else x) ≡ x
same_either_way true x = refl
same_either_way false x = refl

byte_keeps : (image : ℕ → Option ℕ) (base : ℕ) (is_chosen : ℕ → Bool) (a old : ℕ)
    → (is_chosen a ≡ false) ⊎ ((image (base + a) ≡ None) ⊎ (2 ^ 32 ≤ base + a)) → target_byte image base is_chosen a old ≡ old
byte_keeps image base is_chosen a old why = elim why [
  | inl apart ↦ rw apart refl
  | inr rest ↦ elim rest [
    | inl none ↦ rw none (same_either_way (is_chosen a && nat_lt (base + a) (2 ^ 32)) old)
    | inr past ↦ rw (le-ltb (base + a) (2 ^ 32) past, and-false (is_chosen a)) refl
  ]
]

pub target_keeps : (image : ℕ → Option ℕ) (base : ℕ) (is_chosen : ℕ → Bool) (content : List ℕ) (a : ℕ)
    → (is_chosen a ≡ false) ⊎ ((image (base + a) ≡ None) ⊎ (2 ^ 32 ≤ base + a))
    → slice_index (target image base is_chosen content) a ≡ slice_index content a
unfolding target
target_keeps image base is_chosen content a why =
    each_keeps (target_byte image base is_chosen) content a (λ old. byte_keeps image base is_chosen a old why)

pub target_gives : (image : ℕ → Option ℕ) (base : ℕ) (is_chosen : ℕ → Bool) (content : List ℕ) (a byte : ℕ) → a < length content
    → is_chosen a ≡ true → base + a < 2 ^ 32 → image (base + a) ≡ Some byte → slice_index (target image base is_chosen content) a ≡ byte
unfolding target
target_gives image base is_chosen content a byte inside chosen fits given =
    slice_index-each (target_byte image base is_chosen) content a inside
    ∙ rw (chosen, le-leb (suc (base + a)) (2 ^ 32) fits, given) refl
