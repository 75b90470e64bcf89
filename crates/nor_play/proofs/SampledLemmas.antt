-- Clocks among which a search finds no symbol that samples give no bytes.
use Rattle.std.proofs.Common.{◌≡◌, ℕ, suc, ◌+◌, ◌/◌, ◌<◌, ◌==◌, Bool, true, false, cond, ◌||◌, List, [], ◌∷◌, length, get_or, None, refl, ◌∙◌, ap, arith}
use Rattle.std.specs.Prelude.{count_by}
use Rattle.std.proofs.lemmas.List.Sums.{sum_by-cons}
use Rattle.nor_base.specs.Sample.{sampled_count}
use Rattle.memchr.specs.Find.{IsFirstByte, is_byte2}

-- a test that no element passes counts none
none_passes : (p : ℕ → Bool) (xs : List ℕ) → ((k : ℕ) → k < length xs → p (get_or xs k 0) ≡ false) → count_by p xs ≡ 0
none_passes p [] none = refl
none_passes p (x ∷ xs) none =
    let later : count_by p xs ≡ 0 = none_passes p xs (λ k below. none (suc k) (omega arith)) in
    sum_by-cons (λ y. cond (p y) 1 0) x xs ∙ ap (λ b. cond b 1 0 + count_by p xs) (none 0 (omega arith)) ∙ ap (λ n. 0 + n) later

first_of_two : (a b : Bool) → ((a || b) ≡ true → true ≡ false) → a ≡ false
first_of_two true b never = never refl
first_of_two false b never = refl

second_of_two : (a b : Bool) → ((a || b) ≡ true → true ≡ false) → b ≡ false
second_of_two true true never = never refl
second_of_two false true never = never refl
second_of_two a false never = refl

pub none_sampled : (xs : List ℕ) → IsFirstByte (is_byte2 0x2E 0x3D) xs None → sampled_count xs ≡ 0
none_sampled xs none =
    let dots : count_by (λ byte. byte == 0x2E) xs ≡ 0 =
    none_passes (λ byte. byte == 0x2E) xs (λ k below. first_of_two (get_or xs k 0 == 0x2E) (get_or xs k 0 == 0x3D) (λ is. absurd (none k (omega arith) below is))) in
    let equals : count_by (λ byte. byte == 0x3D) xs ≡ 0 =
    none_passes (λ byte. byte == 0x3D) xs (λ k below. second_of_two (get_or xs k 0 == 0x2E) (get_or xs k 0 == 0x3D) (λ is. absurd (none k (omega arith) below is))) in
    ap (λ n. n / 8 + count_by (λ byte. byte == 0x3D) xs / 2) dots ∙ ap (λ n. 0 / 8 + n / 2) equals
