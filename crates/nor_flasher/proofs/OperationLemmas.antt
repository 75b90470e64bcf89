-- The clocks of one operation, in the part that sends and the part that samples.
use Rattle.std.proofs.Common.{◌≡◌, ℕ, zero, suc, ◌+◌, ◌-◌, ◌*◌, ◌/◌, ◌<◌, ◌≤◌, ◌==◌, not, Bool, true, false, cond, Some, None, List, [], ◌∷◌, ◌++◌, length, take, drop, refl, sym, ◌∙◌, ap, arith, eqb-true}
use Rattle.std.specs.Prelude.{flat_map, replicate, nat_lt, unwrap_or}
use Rattle.std.specs.List.{list_all, position, position_or_len}
use Rattle.std.proofs.Math.Seq.{take-append_seam, drop-append_seam}
use Rattle.std.proofs.lemmas.Bool.{agree_below_at, and_parts, ltb-false}
use Rattle.std.proofs.lemmas.List.{length-replicate, drop-replicate}
use Rattle.std.proofs.lemmas.List.Folds.{list_all-append}
use Rattle.std.proofs.lemmas.List.Sums.{prefix_len-le-length}
use Rattle.nor_base.specs.Array.{are_bytes}
use Rattle.nor_base.specs.Clocks.{bits}
use Rattle.nor_base.specs.Decoding.{bit, number, bytes_of_bits}
use Rattle.nor_base.proofs.BitLaws.{first_byte, later_bytes}
use Rattle.nor_serprog.specs.declared.limits.Limits.{Limits}
use Rattle.nor_serprog.specs.Carried.{is_sample, operation_clocks, IsOperation}

number_of_bits : (byte : ℕ) → byte < 256 → number (bits byte) ≡ byte
unfolding bits bit
number_of_bits byte h = eqb-true (number (bits byte)) byte (agree_below_at (λ n. number (bits n) == n) (λ n. true) 256 byte refl h)

bytes_of_all_bits : (bytes : List ℕ) → are_bytes bytes ≡ true → bytes_of_bits (flat_map bits bytes) ≡ bytes
unfolding bits
bytes_of_all_bits [] small = refl
bytes_of_all_bits (byte ∷ bytes) small =
    let first = number_of_bits byte (first_byte byte bytes small) in
    let later = bytes_of_all_bits bytes (later_bytes byte bytes small) in
    rw (first, later)

-- eight clocks a byte
pub length_of_bytes : (xs : List ℕ) → length (bytes_of_bits xs) ≡ length xs / 8
length_of_bytes (a ∷ b ∷ c ∷ d ∷ e ∷ f ∷ g ∷ h ∷ more) = omega (arith, length_of_bytes more)
length_of_bytes fewer = refl

-- the place of the first that passes, or the length
place_by : (n m : ℕ) (b : Bool) → nat_lt n m ≡ b → n ≤ m → unwrap_or (cond b (Some n) None) m ≡ n
place_by n m true is within = refl
place_by n m false is within = let past : m ≤ n = ltb-false n m is in omega arith

pub place_found : (p : ℕ → Bool) (xs : List ℕ) → unwrap_or (position p xs) (length xs) ≡ position_or_len p xs
place_found p xs = place_by (position_or_len p xs) (length xs) (nat_lt (position_or_len p xs) (length xs)) refl (prefix_len-le-length (λ x. not (p x)) xs)

pub place_within : (p : ℕ → Bool) (xs : List ℕ) → position_or_len p xs ≤ length xs
place_within p xs = prefix_len-le-length (λ x. not (p x)) xs

-- no clock of bytes samples
abbrev sends : ℕ → Bool
sends symbol = not (is_sample symbol)

byte_sends : (byte : ℕ) → byte < 256 → list_all sends (bits byte) ≡ true
unfolding bits
byte_sends byte h = agree_below_at (λ n. list_all sends (bits n)) (λ n. true) 256 byte refl h

bytes_send : (bytes : List ℕ) → are_bytes bytes ≡ true → list_all sends (flat_map bits bytes) ≡ true
bytes_send [] small = refl
bytes_send (byte ∷ bytes) small =
    let first = byte_sends byte (first_byte byte bytes small) in
    let later = bytes_send bytes (later_bytes byte bytes small) in
    list_all-append sends (bits byte) (flat_map bits bytes) ∙ (rw (first, later))

sends_not : (b : Bool) → not b ≡ true → b ≡ false
sends_not true h = sym h
sends_not false h = refl

first_sample : (xs : List ℕ) (n : ℕ) → list_all sends xs ≡ true → position_or_len is_sample (xs ++ replicate n 0x2E) ≡ length xs
first_sample [] zero all = refl
first_sample [] (suc n) all = refl
first_sample (x ∷ xs) n all =
    let both = and_parts (sends x) (list_all sends xs) all in
    let none = sends_not (is_sample x) both.0 in
    let later = first_sample xs n both.1 in rw none (omega (arith, later))

-- the clocks of an operation are those of the bytes that the part before the first sample sends, and of as many samples as the other part has
pub record IsCut (limits : Limits) (clocks front back : List ℕ) : Type 0 where
  pub spelled : clocks ≡ operation_clocks (bytes_of_bits front) (length back / 8)
  pub few : length back / 8 ≤ limits.asked

cut_by : (limits : Limits) (clocks front back sent : List ℕ) (asked : ℕ) → IsOperation limits clocks sent asked
    → front ≡ take (position_or_len is_sample clocks) clocks → back ≡ drop (position_or_len is_sample clocks) clocks → IsCut limits clocks front back
cut_by limits clocks front back sent asked op first second =
    let put = flat_map bits sent in
    let samples : List ℕ = replicate (8 * asked) 0x2E in
    let place : position_or_len is_sample clocks ≡ length put = ap (position_or_len is_sample) op.spelled ∙ first_sample put (8 * asked) (bytes_send sent op.bytes) in
    let before : front ≡ put = first ∙ ap (λ n. take n clocks) place ∙ ap (take (length put)) op.spelled ∙ take-append_seam put samples in
    let after : back ≡ samples = second ∙ ap (λ n. drop n clocks) place ∙ ap (drop (length put)) op.spelled ∙ drop-append_seam put samples in
    let bytes : bytes_of_bits front ≡ sent = ap bytes_of_bits before ∙ bytes_of_all_bits sent op.bytes in
    let count : length back / 8 ≡ asked = omega (arith, ap length after, length-replicate {A = ℕ} (8 * asked) 0x2E) in
    record {
      spelled = op.spelled ∙ ap (λ xs. operation_clocks xs asked) (sym bytes) ∙ ap (operation_clocks (bytes_of_bits front)) (sym count);
      few = omega (arith, count, op.few_asked);
    }

pub cut : (limits : Limits) (clocks front back : List ℕ) (n : ℕ) → (sent : List ℕ) × (asked : ℕ) × IsOperation limits clocks sent asked
    → n ≡ position_or_len is_sample clocks → front ≡ take n clocks → back ≡ drop n clocks → IsCut limits clocks front back
cut limits clocks front back n op place first second =
    cut_by limits clocks front back op.0 op.1 op.2 (first ∙ ap (λ k. take k clocks) place) (second ∙ ap (λ k. drop k clocks) place)

-- the symbols of bytes, and samples behind them
pub filled : (whole rest : List ℕ) (len : ℕ) → len ≡ length whole → take len (whole ++ rest) ≡ whole
filled whole rest len long = ap (λ n. take n (whole ++ rest)) long ∙ take-append_seam whole rest

pub samples_left : (items back : List ℕ) (all bits asked : ℕ) → items ≡ replicate all 0x2E → back ≡ drop bits items → all ≡ bits + asked → back ≡ replicate asked 0x2E
samples_left items back all bits asked are left sum =
    let rest : all - bits ≡ asked = omega (arith, sum) in
    left ∙ ap (drop bits) are ∙ drop-replicate bits all 0x2E ∙ ap (λ n. replicate n 0x2E) rest
