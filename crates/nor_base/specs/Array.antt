-- A chip's array: a list of bytes, by their addresses from 0 on.
use Rattle.std.specs.Prelude.{◌⊎◌, ℕ, Bool, ◌<◌, ◌≤◌, nat_lt, true, false, List, [], ◌∷◌, map}
use Rattle.std.specs.List.{list_all, list_any, enumerate_from}

-- a list has some elements
abbrev pub is_filled : {A : Type 0} → List A → Bool
is_filled [] = false
is_filled (x ∷ xs) = true

-- numbers below 256
abbrev pub are_bytes : List ℕ → Bool
are_bytes numbers = list_all (λ n. nat_lt n 256) numbers

-- each byte of the array by its address and what it was
abbrev pub each : (ℕ → ℕ → ℕ) → List ℕ → List ℕ
each f array = map (λ p. f p.0 p.1) (enumerate_from 0 array)

-- some byte of the array passes a test of its address and what it is
abbrev pub some : (ℕ → ℕ → Bool) → List ℕ → Bool
some test array = list_any (λ p. test p.0 p.1) (enumerate_from 0 array)

-- an address before a stretch or past it
abbrev pub IsOutside : ℕ → ℕ → ℕ → Type 0
IsOutside low high x = (x < low) ⊎ (high ≤ x)
