-- What a chip in the other mode gives has a period.
use Rattle.std.proofs.Common.{◌≡◌, inl, inr, ◌<◌, ◌≤◌, ℕ, zero, suc, true, false, ◌+◌, ◌-◌, ◌*◌, ◌/◌, ◌%◌, ◌^◌, List, [], ◌∷◌, ◌++◌, length, take, drop, length-take, length-drop, get_or, refl, sym, ◌∙◌, ap, arith}
use Rattle.std.proofs.lemmas.List.{get_or-drop, get_or-take, ext_get_or}
use Rattle.std.proofs.lemmas.Bool.{cases_lt}
use Rattle.nor_base.specs.Array.{are_bytes}
use Rattle.nor_base.specs.Clocks.{address_bytes}
use Rattle.nor_base.proofs.BitLaws.{first_byte}
use Rattle.nor_reader.specs.Modes.{address_of, MayGive}
use Rattle.nor_reader.specs.Telling.{HasPeriod}

-- a piece that begins two bytes further on than another has its bytes from the third on
pub record Overlaps (p q : List ℕ) : Type 0 where
  pub long : length p ≤ length q + 2
  pub alike : (y : ℕ) → y + 2 < length p → get_or q y 0 ≡ get_or p (2 + y) 0

-- a period, byte by byte
pub period_by : (n : ℕ) (bytes : List ℕ) → ((y : ℕ) → y + n < length bytes → get_or bytes (n + y) 0 ≡ get_or bytes y 0) → HasPeriod n bytes
period_by n bytes each =
    let long = length-drop n bytes in
    let few = length-take (length bytes - n) bytes in
    ext_get_or 0 (drop n bytes) (take (length bytes - n) bytes) (omega (arith, long, few))
    (λ y within. get_or-drop n bytes y 0 ∙ each y (omega (arith, within, long))
    ∙ sym (get_or-take (length bytes - n) bytes y 0 (omega (arith, within, long))))

-- four bytes: three that are an address, and one more
four_of_three : (a : ℕ) (u : ℕ) (driven : List ℕ) → a < 2 ^ 24 → get_or driven 0 0 ≡ u → address_of 4 (address_bytes 3 a ++ driven) ≡ 256 * a + u
four_of_three a u driven fits is = omega (arith, is, fits)

-- three bytes of four
three_of_four : (a : ℕ) (driven : List ℕ) → a < 2 ^ 32 → address_of 3 (address_bytes 4 a ++ driven) ≡ a / 256
three_of_four a driven fits = omega (arith, fits)

-- a byte that is driven
driven_small : (driven : List ℕ) → are_bytes driven ≡ true → get_or driven 0 0 < 256
driven_small [] all = omega arith
driven_small (u ∷ us) all = first_byte u us all

-- pieces that a chip in four-byte mode gives to three address bytes: the first takes what is driven as the last address byte
pub other_four : (holds : ℕ → ℕ) (a : ℕ) (p q : List ℕ) → a + 2 < 2 ^ 24 → Overlaps p q
    → MayGive holds true (record { sent = 0x03 ∷ address_bytes 3 a; got = p })
    → MayGive holds true (record { sent = 0x03 ∷ address_bytes 3 (a + 2); got = q })
    → (n : ℕ) × (255 ≤ n) × (n ≤ 765) × HasPeriod n (drop 3 p)
other_four holds a p q fits over one two =
    let u = get_or one.driven 0 0 in
    let v = get_or two.driven 0 0 in
    let low : u < 256 = driven_small one.driven one.bytes in
    let high : v < 256 = driven_small two.driven two.bytes in
    let n : ℕ = 510 + v - u in
    let left = length-drop 3 p in
    let each : (y : ℕ) → y + n < length (drop 3 p) → get_or (drop 3 p) (n + y) 0 ≡ get_or (drop 3 p) y 0 =
    λ y within.
    let from : address_of 4 (address_bytes 3 a ++ one.driven) ≡ 256 * a + u = four_of_three a u one.driven (omega arith) refl in
    let on : address_of 4 (address_bytes 3 (a + 2) ++ two.driven) ≡ 256 * (a + 2) + v = four_of_three (a + 2) v two.driven fits refl in
    let here = one.gives (3 + (n + y)) (omega (arith, within, left)) (omega arith) in
    let there = two.gives (1 + y) (omega (arith, within, left, over.long)) (omega arith) in
    let same : address_of 4 (address_bytes 3 a ++ one.driven) + (3 + (3 + (n + y)) - 4)
    ≡ address_of 4 (address_bytes 3 (a + 2) ++ two.driven) + (3 + (1 + y) - 4) = omega (arith, from, on, low, high) in
    let third : 2 + (1 + y) ≡ 3 + y = omega arith in
    get_or-drop 3 p (n + y) 0 ∙ here ∙ ap holds same ∙ sym there ∙ over.alike (1 + y) (omega (arith, within, left))
    ∙ ap (λ i. get_or p i 0) third
    ∙ sym (get_or-drop 3 p y 0) in
    (n, omega (arith, low, high), omega (arith, low, high), period_by n (drop 3 p) each)

-- what holds of each step holds of many
many_steps : (f : ℕ → ℕ) (step bound : ℕ) → ((j : ℕ) → 1 ≤ j → j + step < bound → f (j + step) ≡ f j)
    → (k j : ℕ) → 1 ≤ j → j + k * step < bound → f (j + k * step) ≡ f j
many_steps f step bound each zero j some within = let same : j + 0 * step ≡ j = omega arith in ap f same
many_steps f step bound each (suc k) j some within =
    let same : j + suc k * step ≡ j + k * step + step = omega arith in
    ap f same ∙ each (j + k * step) (omega arith) (omega arith) ∙ many_steps f step bound each k j some (omega arith)

-- pieces that a chip in three-byte mode gives to four address bytes: it takes the highest three of them
pub other_three : (holds : ℕ → ℕ) (a : ℕ) (p q : List ℕ) → a + 2 < 2 ^ 32 → Overlaps p q
    → MayGive holds false (record { sent = 0x03 ∷ address_bytes 4 a; got = p })
    → MayGive holds false (record { sent = 0x03 ∷ address_bytes 4 (a + 2); got = q })
    → HasPeriod 256 (drop 3 p)
other_three holds a p q fits over one two = elim (cases_lt (a % 256) 254) [
  | inl low ↦ period_by 256 (drop 3 p) (λ y within. steps 2 128 y (omega arith) within (same_address low))
  | inr high ↦ period_by 256 (drop 3 p) (λ y within. steps 1 256 y (omega arith) within (next_address high))
]
  where
    at_one : address_of 3 (address_bytes 4 a ++ one.driven) ≡ a / 256
    at_one = three_of_four a one.driven (omega arith)

    at_two : address_of 3 (address_bytes 4 (a + 2) ++ two.driven) ≡ (a + 2) / 256
    at_two = three_of_four (a + 2) two.driven fits

    same_address : a % 256 < 254 → (j : ℕ) → 1 ≤ j → j + 2 < length p → get_or p (j + 2) 0 ≡ get_or p j 0
    same_address low j some within =
        let order : j + 2 ≡ 2 + j = omega arith in
        let quotient : (a + 2) / 256 ≡ a / 256 = omega arith in
        let same : address_of 3 (address_bytes 4 (a + 2) ++ two.driven) + (4 + j - 3) ≡ address_of 3 (address_bytes 4 a ++ one.driven) + (4 + j - 3)
        = omega (arith, at_one, at_two, quotient) in
        ap (λ i. get_or p i 0) order ∙ sym (over.alike j within) ∙ two.gives j (omega (arith, over.long)) (omega arith) ∙ ap holds same
        ∙ sym (one.gives j (omega arith) (omega arith))

    next_address : 254 ≤ a % 256 → (j : ℕ) → 1 ≤ j → j + 1 < length p → get_or p (j + 1) 0 ≡ get_or p j 0
    next_address high j some within =
        let order : j + 1 ≡ 2 + (j - 1) = omega arith in
        let quotient : (a + 2) / 256 ≡ a / 256 + 1 = omega arith in
        let same : address_of 3 (address_bytes 4 (a + 2) ++ two.driven) + (4 + (j - 1) - 3) ≡ address_of 3 (address_bytes 4 a ++ one.driven) + (4 + j - 3)
        = omega (arith, at_one, at_two, quotient) in
        ap (λ i. get_or p i 0) order ∙ sym (over.alike (j - 1) (omega arith)) ∙ two.gives (j - 1) (omega (arith, over.long)) (omega arith) ∙ ap holds same
        ∙ sym (one.gives j (omega arith) (omega arith))

    steps : (step count y : ℕ) → count * step ≡ 256 → y + 256 < length (drop 3 p)
        → ((j : ℕ) → 1 ≤ j → j + step < length p → get_or p (j + step) 0 ≡ get_or p j 0) → get_or (drop 3 p) (256 + y) 0 ≡ get_or (drop 3 p) y 0
    steps step count y times within each =
        let left = length-drop 3 p in
        let far : 3 + (256 + y) ≡ 3 + y + count * step = omega (arith, times) in
        get_or-drop 3 p (256 + y) 0 ∙ ap (λ i. get_or p i 0) far
        ∙ many_steps (λ i. get_or p i 0) step (length p) each count (3 + y) (omega arith) (omega (arith, times, within, left))
        ∙ sym (get_or-drop 3 p y 0)
