-- The bytes that data clocks stand for, one by one.
use Rattle.std.proofs.Common.{◌≡◌, ℕ, zero, suc, ◌+◌, ◌-◌, ◌*◌, ◌/◌, ◌<◌, List, ◌∷◌, length, take, drop, get_or, ◌⊎◌, inl, inr, refl, sym, arith}
use Rattle.std.specs.List.{slice_range}
use Rattle.nor_base.specs.declared.instruction.What.{What}
use Rattle.nor_base.specs.declared.instruction.What.TheVariants as what
use Rattle.nor_base.specs.Instructions.{form_of}
use Rattle.nor_base.specs.Decoding.{number, nibble, bytes_of_bits, bytes_of_nibbles, bytes_sent, bytes_asked}

pub bits_length : (xs : List ℕ) → length (bytes_of_bits xs) ≡ length xs / 8
bits_length (a ∷ b ∷ c ∷ d ∷ e ∷ f ∷ g ∷ h ∷ more) = omega (arith, bits_length more)
bits_length fewer = refl

pub nibbles_length : (xs : List ℕ) → length (bytes_of_nibbles xs) ≡ length xs / 2
nibbles_length (high ∷ low ∷ more) = omega (arith, nibbles_length more)
nibbles_length fewer = refl

pub bits_at : (xs : List ℕ) (i : ℕ) → i < length xs / 8 → get_or (bytes_of_bits xs) i 0 ≡ number (take 8 (drop (8 * i) xs))
bits_at (a ∷ b ∷ c ∷ d ∷ e ∷ f ∷ g ∷ h ∷ more) zero within = refl
bits_at (a ∷ b ∷ c ∷ d ∷ e ∷ f ∷ g ∷ h ∷ more) (suc i) within =
    let further : 8 * suc i ≡ suc (suc (suc (suc (suc (suc (suc (suc (8 * i)))))))) = omega arith in
    rw further (bits_at more i (omega arith))
bits_at fewer i within = absurd (omega arith)

pub nibbles_at : (xs : List ℕ) (i : ℕ) → i < length xs / 2 → get_or (bytes_of_nibbles xs) i 0 ≡ 16 * nibble (get_or xs (2 * i) 0) + nibble (get_or xs (2 * i + 1) 0)
nibbles_at (high ∷ low ∷ more) zero within = refl
nibbles_at (high ∷ low ∷ more) (suc i) within =
    let first : 2 * suc i ≡ suc (suc (2 * i)) = omega arith in
    let second : 2 * suc i + 1 ≡ suc (suc (2 * i + 1)) = omega arith in
    rw (second, first) (nibbles_at more i (omega arith))
nibbles_at fewer i within = absurd (omega arith)

-- the eight clocks of a byte
pub byte_at : (xs : List ℕ) (i : ℕ) → i < length xs / 8 → number (slice_range xs (8 * i) (8 * i + 8)) ≡ get_or (bytes_of_bits xs) i 0
byte_at xs i within = let eight : 8 * i + 8 - 8 * i ≡ 8 = omega arith in rw eight (sym (bits_at xs i within))

-- the bytes that are sent or sampled on one lane, and on four
pub count_of_bits : (body : List ℕ) (w : What) → (w ≡ what.Program) ⊎ ((w ≡ what.Status) ⊎ (w ≡ what.Read))
    → length body / 8 ≡ length (bytes_sent (form_of w) body) + bytes_asked (form_of w) body
count_of_bits body w (inl is) = rw is (omega (arith, bits_length body))
count_of_bits body w (inr (inl is)) = rw is (omega arith)
count_of_bits body w (inr (inr is)) = rw is (omega arith)

pub count_of_nibbles : (body : List ℕ) (w : What) → (w ≡ what.QuadProgram) ⊎ (w ≡ what.QuadRead)
    → length body / 2 ≡ length (bytes_sent (form_of w) body) + bytes_asked (form_of w) body
count_of_nibbles body w (inl is) = rw is (omega (arith, nibbles_length body))
count_of_nibbles body w (inr is) = rw is (omega arith)
