-- Places of a program within its page.
use Rattle.std.proofs.Common.{◌≡◌, ◌≢◌, ℕ, ◌+◌, ◌-◌, ◌*◌, ◌/◌, ◌%◌, ◌<◌, ◌≤◌, sym, ◌∙◌, ap, arith, inl, inr}
use Rattle.std.proofs.lemmas.Bool.{cases_lt}
use Rattle.std.proofs.Math.Nat.{mul-le-mul_left, add-mod_right, mod-add-mod}
use Rattle.nor_base.specs.Effect.{place}

-- a remainder of a sum with one
pub mod_of_first : (a j p : ℕ) → (a % p + j) % p ≡ (a + j) % p
mod_of_first a j p = mod-add-mod a p j

-- a place by the page's first address and the offset in it
pub place_by : (page address j at : ℕ) → at ≡ (address - address % page) + (address % page + j) % page → at ≡ place page address j
place_by page address j at is = is ∙ ap (λ n. (address - address % page) + n) (mod_of_first address j page)

-- the next turn round the page
pub place_again : (page address j : ℕ) → place page address (j + page) ≡ place page address j
place_again page address j =
    let moved : address + (j + page) ≡ (address + j) + page = omega arith in
    ap (λ n. (address - address % page) + n) (ap (λ n. n % page) moved ∙ add-mod_right (address + j) page)

-- two numbers less than p apart have different remainders
mods_apart : (p m d : ℕ) → 0 < d → d < p → (m + d) % p ≢ m % p
mods_apart p m d some fits same = elim (cases_lt (m / p) ((m + d) / p)) [
  | inl more ↦ let up : p * (m / p + 1) ≤ p * ((m + d) / p) = mul-le-mul_left p (omega arith) in omega (arith, up)
  | inr less ↦ let up : p * ((m + d) / p) ≤ p * (m / p) = mul-le-mul_left p less in omega (arith, up)
]

-- within one turn each byte has a place of its own
pub places_apart : (page address j k : ℕ) → j < k → k < j + page → place page address k ≢ place page address j
places_apart page address j k later near same =
    let d = k - j in
    let moved : address + k ≡ (address + j) + (k - j) = omega arith in
    let rests : ((address + j) + (k - j)) % page ≡ (address + j) % page = ap (λ n. n % page) (sym moved) ∙ omega (arith, same) in
    mods_apart page (address + j) (k - j) (omega arith) (omega arith) rests
