-- Parts of lists, and numbers that one divides.
use Rattle.std.proofs.Common.{◌≡◌, ℕ, suc, ◌+◌, ◌-◌, ◌*◌, ◌/◌, ◌%◌, ◌<◌, ◌≤◌, List, length, drop, sym, ◌∙◌, ap, arith, length-take, length-drop, get_or-take, get_or-drop, ext_get_or, inl, inr}
use Rattle.std.specs.List.{slice_index, slice_range}
use Rattle.std.proofs.Math.Nat.{div-add-mod, mul-le-mul_left, mul-suc}
use Rattle.std.proofs.lemmas.Bool.{cases_lt}

pub length-range : (xs : List ℕ) (low high : ℕ) → low ≤ high → high ≤ length xs → length (slice_range xs low high) ≡ high - low
length-range xs low high rises inside = omega (arith, length-take (high - low) (drop low xs), length-drop low xs)

pub range_at : (xs : List ℕ) (low high x : ℕ) → low ≤ x → x < high → slice_index (slice_range xs low high) (x - low) ≡ slice_index xs x
range_at xs low high x from upto =
    let far : low + (x - low) ≡ x = omega arith in
    get_or-take (high - low) (drop low xs) (x - low) 0 (omega arith) ∙ get_or-drop low xs (x - low) 0 ∙ ap (slice_index xs) far

-- two lists that hold the same in a stretch
pub same_range : (xs ys : List ℕ) (low high : ℕ) → low ≤ high → high ≤ length xs → high ≤ length ys
    → ((x : ℕ) → low ≤ x → x < high → slice_index xs x ≡ slice_index ys x) → slice_range xs low high ≡ slice_range ys low high
same_range xs ys low high rises in_xs in_ys same =
    let left = length-range xs low high rises in_xs in
    let right = length-range ys low high rises in_ys in
    ext_get_or 0 (slice_range xs low high) (slice_range ys low high) (left ∙ sym right) (λ k fits.
    let here : low + k < high = omega (arith, left, fits) in
    let place : (low + k) - low ≡ k = omega arith in
    ap (slice_index (slice_range xs low high)) (sym place) ∙ range_at xs low high (low + k) (omega arith) here ∙ same (low + k) (omega arith) here
    ∙ sym (range_at ys low high (low + k) (omega arith) here) ∙ ap (slice_index (slice_range ys low high)) place)

-- of two multiples of a number that are less than it apart, the first isn't past the second
pub aligned_le : (a b n : ℕ) → 0 < n → a % n ≡ 0 → b % n ≡ 0 → a < b + n → a ≤ b
aligned_le a b n some whole_a whole_b near =
    let at : n * (a / n) + a % n ≡ a = div-add-mod a n in
    let bt : n * (b / n) + b % n ≡ b = div-add-mod b n in
    elim (cases_lt (b / n) (a / n)) [
      | inl past ↦
          let far : n * suc (b / n) ≤ n * (a / n) = mul-le-mul_left n past in
          let step : n * suc (b / n) ≡ n * (b / n) + n = mul-suc n (b / n) in
          absurd (omega (arith, at, bt, far, step, whole_a, whole_b, near))
      | inr upto ↦
          let far : n * (a / n) ≤ n * (b / n) = mul-le-mul_left n upto in
          omega (arith, at, bt, far, whole_a, whole_b)
    ]
