-- The first kind that passes, one kind at a time.
use Rattle.std.proofs.Common.{◌≡◌, ℕ, suc, ◌+◌, ◌-◌, ◌<◌, Bool, true, false, find, Some, refl, ◌∙◌, ap, arith}
use Rattle.std.specs.List.{range_with_len}

-- it passes
pub found_here : (p : ℕ → Bool) (kind : ℕ) → kind < 5 → p kind ≡ true → find p (range_with_len kind (5 - kind)) ≡ Some kind
found_here p kind lt is =
    let more : 5 - kind ≡ suc (4 - kind) = omega (arith, lt) in
    ap (λ n. find p (range_with_len kind n)) more ∙ rw is refl

-- it doesn't
pub found_later : (p : ℕ → Bool) (kind : ℕ) → kind < 5 → p kind ≡ false → find p (range_with_len kind (5 - kind)) ≡ find p (range_with_len (kind + 1) (5 - (kind + 1)))
found_later p kind lt is =
    let more : 5 - kind ≡ suc (5 - (kind + 1)) = omega (arith, lt) in
    ap (λ n. find p (range_with_len kind n)) more ∙ rw is refl
