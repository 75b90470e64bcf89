-- The last bytes of an address, the highest first.
use Rattle.std.proofs.Common.{◌≡◌, ℕ, zero, suc, ◌-◌, ◌/◌, ◌≤◌, List, ◌∷◌, length, take, drop, refl, ◌∙◌, ap, arith}
use Rattle.std.specs.Int.{bytes_high_first}
use Rattle.std.proofs.lemmas.List.{take_all}
use Rattle.nor_base.specs.Clocks.{address_bytes}

last_bytes : (w address : ℕ) → w ≤ 4 → take (4 - (4 - w)) (drop (4 - w) (bytes_high_first 4 address)) ≡ address_bytes w address
last_bytes zero address few = refl
last_bytes (suc zero) address few = let low : address / 1 ≡ address = omega arith in rw low refl
last_bytes (suc (suc zero)) address few = let low : address / 1 ≡ address = omega arith in rw low refl
last_bytes (suc (suc (suc zero))) address few = let low : address / 1 ≡ address = omega arith in rw low refl
last_bytes (suc (suc (suc (suc zero)))) address few = let low : address / 1 ≡ address = omega arith in rw low refl
last_bytes (suc (suc (suc (suc (suc w))))) address few = absurd (omega arith)

pub head_is : (w n index address op : ℕ) (items bytes : List ℕ) → n ≡ w → w ≤ 4 → bytes ≡ bytes_high_first 4 address
    → items ≡ op ∷ take index (take (4 - (4 - n)) (drop (4 - n) bytes)) → length (take (4 - (4 - n)) (drop (4 - n) bytes)) ≤ index
    → items ≡ op ∷ address_bytes w address
head_is w n index address op items bytes same few are is all =
    let part = take (4 - (4 - n)) (drop (4 - n) bytes) in
    is ∙ ap (λ rest. op ∷ rest) (take_all index part all ∙ ap (λ k. take (4 - (4 - k)) (drop (4 - k) bytes)) same
    ∙ ap (λ bs. take (4 - (4 - w)) (drop (4 - w) bs)) are ∙ last_bytes w address few)
