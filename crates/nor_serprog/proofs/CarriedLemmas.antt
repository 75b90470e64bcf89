-- Clocks and the bytes that they send and sample.
use Rattle.std.proofs.Common.{◌≡◌, ◌⊎◌, inl, inr, ℕ, zero, suc, ◌+◌, ◌*◌, ◌/◌, ◌%◌, ◌<◌, ◌≤◌, ◌==◌, ◌&&◌, ◌||◌, not, Bool, true, false, cond, List, [], ◌∷◌, ◌++◌, length, take, Some, None, refl, sym, ◌∙◌, ap, arith, eqb-true}
use Rattle.std.specs.Prelude.{flat_map, replicate, nat_lt, nat_le, count_by, unwrap_or}
use Rattle.std.specs.List.{list_all, position, position_or_len}
use Rattle.std.proofs.Math.Seq.{take-append_seam}
use Rattle.std.proofs.lemmas.Bool.{agree_below_at, and_parts, lt-ltb, ltb-true, ltb-false, le-leb, leb-true}
use Rattle.std.proofs.lemmas.List.Sums.{prefix_len-le-length}
use Rattle.std.proofs.lemmas.List.{length-replicate, append_cancel_left}
use Rattle.std.proofs.lemmas.List.Folds.{list_all-append}
use Rattle.std.proofs.lemmas.List.Sums.{sum_by-append}
use Rattle.nor_base.specs.Array.{are_bytes}
use Rattle.nor_base.specs.Clocks.{bits}
use Rattle.nor_base.specs.Decoding.{bit, number, bytes_of_bits}
use Rattle.nor_base.specs.Sample.{sampled_count}
use Rattle.nor_base.proofs.BitLaws.{length-all_bits, first_byte, later_bytes}
use Rattle.nor_serprog.specs.declared.limits.Limits.{Limits}
use Rattle.nor_serprog.specs.Carried.{is_bit, is_sample, are_bytes_sent, are_bytes_sampled, fits, IsOperation, IsNoOperation}

or_parts : (a b : Bool) → (a || b) ≡ true → (a ≡ true) ⊎ (b ≡ true)
or_parts true b h = inl refl
or_parts false b h = inr h

-- a bit's symbol is 30h and its level
bit_of : (symbol : ℕ) → is_bit symbol ≡ true → (symbol ≡ 0x30 + bit symbol) × (bit symbol < 2)
unfolding bit
bit_of symbol h = elim (or_parts (symbol == 0x30) (symbol == 0x31) h) [
  | inl low ↦ let is : symbol ≡ 0x30 = eqb-true symbol 0x30 low in rw is (refl, omega arith)
  | inr high ↦ let is : symbol ≡ 0x31 = eqb-true symbol 0x31 high in rw is (refl, omega arith)
]

record IsFirstBit (x : ℕ) (more : List ℕ) : Type 0 where
  is : x ≡ 0x30 + bit x
  small : bit x < 2
  later : list_all is_bit more ≡ true

first_bit : (x : ℕ) (more : List ℕ) → list_all is_bit (x ∷ more) ≡ true → IsFirstBit x more
first_bit x more h =
    let both = and_parts (is_bit x) (list_all is_bit more) h in
    let b = bit_of x both.0 in record { is = b.0; small = b.1; later = both.1 }

-- the digits of a number below 256
digits : (a b c d e f g h n : ℕ) → a < 2 → b < 2 → c < 2 → d < 2 → e < 2 → f < 2 → g < 2 → h < 2
    → n ≡ a * 128 + (b * 64 + (c * 32 + (d * 16 + (e * 8 + (f * 4 + (g * 2 + h))))))
    → bits n ≡ (0x30 + a) ∷ (0x30 + b) ∷ (0x30 + c) ∷ (0x30 + d) ∷ (0x30 + e) ∷ (0x30 + f) ∷ (0x30 + g) ∷ (0x30 + h) ∷ []
unfolding bits
digits a b c d e f g h n pa pb pc pd pe pf pg ph is =
    let e7 : n / 128 % 2 ≡ a = omega arith in
    let e6 : n / 64 % 2 ≡ b = omega arith in
    let e5 : n / 32 % 2 ≡ c = omega arith in
    let e4 : n / 16 % 2 ≡ d = omega arith in
    let e3 : n / 8 % 2 ≡ e = omega arith in
    let e2 : n / 4 % 2 ≡ f = omega arith in
    let e1 : n / 2 % 2 ≡ g = omega arith in
    let e0 : n / 1 % 2 ≡ h = omega arith in
    rw (e7, e6, e5, e4, e3, e2, e1, e0) refl

record IsSpelled (xs : List ℕ) : Type 0 where
  spelled : flat_map bits (bytes_of_bits xs) ≡ xs
  bytes : are_bytes (bytes_of_bits xs) ≡ true

-- bits in eights are those of their bytes
spelled_by : (xs : List ℕ) → list_all is_bit xs ≡ true → length xs % 8 ≡ 0 → IsSpelled xs
spelled_by [] all whole = record { spelled = refl; bytes = refl }
spelled_by (a ∷ []) all whole = absurd (omega (arith, whole))
spelled_by (a ∷ b ∷ []) all whole = absurd (omega (arith, whole))
spelled_by (a ∷ b ∷ c ∷ []) all whole = absurd (omega (arith, whole))
spelled_by (a ∷ b ∷ c ∷ d ∷ []) all whole = absurd (omega (arith, whole))
spelled_by (a ∷ b ∷ c ∷ d ∷ e ∷ []) all whole = absurd (omega (arith, whole))
spelled_by (a ∷ b ∷ c ∷ d ∷ e ∷ f ∷ []) all whole = absurd (omega (arith, whole))
spelled_by (a ∷ b ∷ c ∷ d ∷ e ∷ f ∷ g ∷ []) all whole = absurd (omega (arith, whole))
spelled_by (a ∷ b ∷ c ∷ d ∷ e ∷ f ∷ g ∷ h ∷ more) all whole =
    let pa = first_bit a (b ∷ c ∷ d ∷ e ∷ f ∷ g ∷ h ∷ more) all in
    let pb = first_bit b (c ∷ d ∷ e ∷ f ∷ g ∷ h ∷ more) pa.later in
    let pc = first_bit c (d ∷ e ∷ f ∷ g ∷ h ∷ more) pb.later in
    let pd = first_bit d (e ∷ f ∷ g ∷ h ∷ more) pc.later in
    let pe = first_bit e (f ∷ g ∷ h ∷ more) pd.later in
    let pf = first_bit f (g ∷ h ∷ more) pe.later in
    let pg = first_bit g (h ∷ more) pf.later in
    let ph = first_bit h more pg.later in
    let later = spelled_by more ph.later (omega (arith, whole)) in
    let n : ℕ = number (a ∷ b ∷ c ∷ d ∷ e ∷ f ∷ g ∷ h ∷ []) in
    let is : n ≡ bit a * 128 + (bit b * 64 + (bit c * 32 + (bit d * 16 + (bit e * 8 + (bit f * 4 + (bit g * 2 + bit h)))))) = omega arith in
    let small : nat_lt n 256 ≡ true = lt-ltb n 256 (omega (arith, pa.small, pb.small, pc.small, pd.small, pe.small, pf.small, pg.small, ph.small)) in
    let first = digits (bit a) (bit b) (bit c) (bit d) (bit e) (bit f) (bit g) (bit h) n pa.small pb.small pc.small pd.small pe.small pf.small pg.small ph.small is in
    let symbols : bits n ≡ a ∷ b ∷ c ∷ d ∷ e ∷ f ∷ g ∷ h ∷ [] = first ∙ cc (pa.is, pb.is, pc.is, pd.is, pe.is, pf.is, pg.is, ph.is) in
    record {
      spelled = ap (λ front. front ++ flat_map bits (bytes_of_bits more)) symbols ∙ ap (λ rest. a ∷ b ∷ c ∷ d ∷ e ∷ f ∷ g ∷ h ∷ rest) later.spelled;
      bytes = rw small later.bytes;
    }

pub length_of_bytes : (xs : List ℕ) → length (bytes_of_bits xs) ≡ length xs / 8
length_of_bytes (a ∷ b ∷ c ∷ d ∷ e ∷ f ∷ g ∷ h ∷ more) = omega (arith, length_of_bytes more)
length_of_bytes fewer = refl

-- the clocks of bytes are bits
byte_is_bits : (byte : ℕ) → byte < 256 → list_all is_bit (bits byte) ≡ true
unfolding bits
byte_is_bits byte h = agree_below_at (λ n. list_all is_bit (bits n)) (λ n. true) 256 byte refl h

bytes_are_bits : (bytes : List ℕ) → are_bytes bytes ≡ true → list_all is_bit (flat_map bits bytes) ≡ true
bytes_are_bits [] small = refl
bytes_are_bits (byte ∷ bytes) small =
    let first = byte_is_bits byte (first_byte byte bytes small) in
    let later = bytes_are_bits bytes (later_bytes byte bytes small) in
    list_all-append is_bit (bits byte) (flat_map bits bytes) ∙ (rw (first, later))

-- samples are so many of one symbol
samples_alike : (xs : List ℕ) → list_all is_sample xs ≡ true → xs ≡ replicate (length xs) 0x2E
samples_alike [] all = refl
samples_alike (x ∷ xs) all =
    let both = and_parts (is_sample x) (list_all is_sample xs) all in
    let is : x ≡ 0x2E = eqb-true x 0x2E both.0 in
    let later = samples_alike xs both.1 in cc

alike_samples : (n : ℕ) → list_all is_sample (replicate n 0x2E) ≡ true
alike_samples zero = refl
alike_samples (suc n) = alike_samples n

-- the first sample comes after the bits
no_sample : (x : ℕ) → is_bit x ≡ true → is_sample x ≡ false
no_sample x h = elim (or_parts (x == 0x30) (x == 0x31) h) [
  | inl low ↦ let is : x ≡ 0x30 = eqb-true x 0x30 low in rw is refl
  | inr high ↦ let is : x ≡ 0x31 = eqb-true x 0x31 high in rw is refl
]

first_sample : (xs : List ℕ) (n : ℕ) → list_all is_bit xs ≡ true → position_or_len is_sample (xs ++ replicate n 0x2E) ≡ length xs
first_sample [] zero all = refl
first_sample [] (suc n) all = refl
first_sample (x ∷ xs) n all =
    let both = and_parts (is_bit x) (list_all is_bit xs) all in
    let none = no_sample x both.0 in
    let later = first_sample xs n both.1 in rw none (omega (arith, later))

-- the place of the first that passes, or the length
place_by : (n m : ℕ) (b : Bool) → nat_lt n m ≡ b → n ≤ m → unwrap_or (cond b (Some n) None) m ≡ n
place_by n m true is within = refl
place_by n m false is within = let past : m ≤ n = ltb-false n m is in omega arith

pub place_found : (p : ℕ → Bool) (xs : List ℕ) → unwrap_or (position p xs) (length xs) ≡ position_or_len p xs
place_found p xs = place_by (position_or_len p xs) (length xs) (nat_lt (position_or_len p xs) (length xs)) refl (prefix_len-le-length (λ x. not (p x)) xs)

record AreFit (limits : Limits) (sent sampled : List ℕ) : Type 0 where
  some : 0 < length sent
  eights : length sent % 8 ≡ 0
  bits : list_all is_bit sent ≡ true
  sampled_eights : length sampled % 8 ≡ 0
  samples : list_all is_sample sampled ≡ true
  few_sent : length sent / 8 ≤ limits.sent
  few_sampled : length sampled / 8 ≤ limits.asked

fit_parts : (limits : Limits) (sent sampled : List ℕ) → fits limits sent sampled ≡ true → AreFit limits sent sampled
fit_parts limits sent sampled h =
    let all = and_parts (are_bytes_sent sent) (are_bytes_sampled sampled && (nat_le (length sent / 8) limits.sent && nat_le (length sampled / 8) limits.asked)) h in
    let rest = and_parts (are_bytes_sampled sampled) (nat_le (length sent / 8) limits.sent && nat_le (length sampled / 8) limits.asked) all.1 in
    let within = and_parts (nat_le (length sent / 8) limits.sent) (nat_le (length sampled / 8) limits.asked) rest.1 in
    let first = and_parts (nat_lt 0 (length sent)) ((length sent % 8 == 0) && list_all is_bit sent) all.0 in
    let second = and_parts (length sent % 8 == 0) (list_all is_bit sent) first.1 in
    let third = and_parts (length sampled % 8 == 0) (list_all is_sample sampled) rest.0 in
    record {
      some = ltb-true 0 (length sent) first.0;
      eights = eqb-true (length sent % 8) 0 second.0;
      bits = second.1;
      sampled_eights = eqb-true (length sampled % 8) 0 third.0;
      samples = third.1;
      few_sent = leb-true (length sent / 8) limits.sent within.0;
      few_sampled = leb-true (length sampled / 8) limits.asked within.1;
    }

parts_fit : (limits : Limits) (sent sampled : List ℕ) → AreFit limits sent sampled → fits limits sent sampled ≡ true
parts_fit limits sent sampled h =
    let a : nat_lt 0 (length sent) ≡ true = lt-ltb 0 (length sent) h.some in
    let b : (length sent % 8 == 0) ≡ true = rw h.eights refl in
    let c : (length sampled % 8 == 0) ≡ true = rw h.sampled_eights refl in
    let d : nat_le (length sent / 8) limits.sent ≡ true = le-leb (length sent / 8) limits.sent h.few_sent in
    let e : nat_le (length sampled / 8) limits.asked ≡ true = le-leb (length sampled / 8) limits.asked h.few_sampled in
    rw (a, b, h.bits, c, h.samples, d, e) refl

bytes_counted : (bytes : List ℕ) → length (flat_map bits bytes) / 8 ≡ length bytes
bytes_counted bytes = omega (arith, length-all_bits bytes)

-- what fits is an operation
pub carried_by : (limits : Limits) (clocks sent sampled : List ℕ) → clocks ≡ sent ++ sampled → fits limits sent sampled ≡ true
    → (asked : ℕ) × IsOperation limits clocks (bytes_of_bits sent) asked
carried_by limits clocks sent sampled both h =
    let fit = fit_parts limits sent sampled h in
    let spelled = spelled_by sent fit.bits fit.eights in
    let count : length (bytes_of_bits sent) ≡ length sent / 8 = sym (bytes_counted (bytes_of_bits sent)) ∙ ap (λ xs. length xs / 8) spelled.spelled in
    let eights : 8 * (length sampled / 8) ≡ length sampled = omega (arith, fit.sampled_eights) in
    let alike : sampled ≡ replicate (8 * (length sampled / 8)) 0x2E = samples_alike sampled fit.samples ∙ ap (λ n. replicate n 0x2E) (sym eights) in (
      length sampled / 8,
      record {
        spelled = both ∙ ap (λ xs. xs ++ sampled) (sym spelled.spelled) ∙ ap (λ xs. flat_map bits (bytes_of_bits sent) ++ xs) alike;
        bytes = spelled.bytes;
        some = omega (arith, count, fit.some, fit.eights);
        few_sent = omega (arith, count, fit.few_sent);
        few_asked = fit.few_sampled;
      },
    )

-- the parts of an operation's clocks are those before and from the first sample on
record AreParts (xs ys us vs : List ℕ) : Type 0 where
  front : xs ≡ us
  back : ys ≡ vs

same_parts : (xs ys us vs : List ℕ) → xs ++ ys ≡ us ++ vs → length xs ≡ length us → AreParts xs ys us vs
same_parts xs ys us vs both long =
    let front : xs ≡ us = sym (take-append_seam xs ys) ∙ ap (take (length xs)) both ∙ ap (λ n. take n (us ++ vs)) long ∙ take-append_seam us vs in
    record { front = front; back = append_cancel_left xs ys vs (both ∙ ap (λ zs. zs ++ vs) (sym front)) }

operation_fits : (limits : Limits) (clocks sent sampled bytes : List ℕ) (asked : ℕ) → length sent ≡ position_or_len is_sample clocks → clocks ≡ sent ++ sampled
    → IsOperation limits clocks bytes asked → fits limits sent sampled ≡ true
operation_fits limits clocks sent sampled bytes asked first both op =
    let all = bytes_are_bits bytes op.bytes in
    let long : length sent ≡ length (flat_map bits bytes) = first ∙ ap (position_or_len is_sample) op.spelled ∙ first_sample (flat_map bits bytes) (8 * asked) all in
    let parts = same_parts sent sampled (flat_map bits bytes) (replicate (8 * asked) 0x2E) (sym both ∙ op.spelled) long in
    let count : length sent ≡ 8 * length bytes = long ∙ length-all_bits bytes in
    let count_sampled : length sampled ≡ 8 * asked = ap length parts.back ∙ length-replicate (8 * asked) 0x2E in
    parts_fit limits sent sampled (record {
      some = omega (arith, op.some);
      eights = omega (arith, count);
      bits = ap (list_all is_bit) parts.front ∙ all;
      sampled_eights = omega (arith, count_sampled);
      samples = ap (list_all is_sample) parts.back ∙ alike_samples (8 * asked);
      few_sent = omega (arith, op.few_sent, count);
      few_sampled = omega (arith, op.few_asked, count_sampled);
    })

pub none_by : (limits : Limits) (clocks sent sampled : List ℕ) → length sent ≡ position_or_len is_sample clocks → clocks ≡ sent ++ sampled
    → fits limits sent sampled ≡ false → IsNoOperation limits clocks
none_by limits clocks sent sampled first both h =
    λ bytes asked op. let whole = operation_fits limits clocks sent sampled bytes asked first both op in cc

-- an operation samples as many bytes as it asks for
other_symbol : (symbol x : ℕ) → is_bit symbol ≡ false → is_bit x ≡ true → (x == symbol) ≡ false
other_symbol symbol x other h = elim (or_parts (x == 0x30) (x == 0x31) h) [
  | inl low ↦ let is : x ≡ 0x30 = eqb-true x 0x30 low in by_cases (x == symbol) refl
  | inr high ↦ let is : x ≡ 0x31 = eqb-true x 0x31 high in by_cases (x == symbol) refl
]
  where
    by_cases : (b : Bool) → (x == symbol) ≡ b → (x == symbol) ≡ false
    by_cases false is = is
    by_cases true is = let same : x ≡ symbol = eqb-true x symbol is in let wrong : is_bit symbol ≡ true = ap is_bit (sym same) ∙ h in cc

count_both : (symbol : ℕ) (xs ys : List ℕ) → count_by (λ byte. byte == symbol) (xs ++ ys) ≡ count_by (λ byte. byte == symbol) xs + count_by (λ byte. byte == symbol) ys
count_both symbol xs ys = sum_by-append (λ x. cond (x == symbol) 1 0) xs ys

count_first : (symbol x n : ℕ) (xs : List ℕ) → cond (x == symbol) 1 0 ≡ n → count_by (λ byte. byte == symbol) (x ∷ xs) ≡ n + count_by (λ byte. byte == symbol) xs
count_first symbol x n xs is =
    let one : count_by (λ byte. byte == symbol) (x ∷ []) ≡ 0 + cond (x == symbol) 1 0 = refl in
    let both : count_by (λ byte. byte == symbol) (x ∷ xs) ≡ count_by (λ byte. byte == symbol) (x ∷ []) + count_by (λ byte. byte == symbol) xs = count_both symbol (x ∷ []) xs in
    omega (arith, one, both, is)

none_of : (symbol : ℕ) (xs : List ℕ) → is_bit symbol ≡ false → list_all is_bit xs ≡ true → count_by (λ byte. byte == symbol) xs ≡ 0
none_of symbol [] other all = refl
none_of symbol (x ∷ xs) other all =
    let both = and_parts (is_bit x) (list_all is_bit xs) all in
    let here = other_symbol symbol x other both.0 in
    let later = none_of symbol xs other both.1 in
    let none : cond {A = ℕ} (x == symbol) 1 0 ≡ 0 = rw here refl in
    let first = count_first symbol x 0 xs none in omega (arith, first, later)

all_of : (n : ℕ) → count_by (λ byte. byte == 0x2E) (replicate n 0x2E) ≡ n
all_of zero = refl
all_of (suc n) = let later = all_of n in let first = count_first 0x2E 0x2E 1 (replicate n 0x2E) refl in omega (arith, first, later)

none_of_others : (n : ℕ) → count_by (λ byte. byte == 0x3D) (replicate n 0x2E) ≡ 0
none_of_others zero = refl
none_of_others (suc n) = let later = none_of_others n in let first = count_first 0x3D 0x2E 0 (replicate n 0x2E) refl in omega (arith, first, later)

pub asked_is : (limits : Limits) (clocks bytes : List ℕ) (asked : ℕ) → IsOperation limits clocks bytes asked → sampled_count clocks ≡ asked
asked_is limits clocks bytes asked op =
    let all = bytes_are_bits bytes op.bytes in
    let front = flat_map bits bytes in
    let back : List ℕ = replicate (8 * asked) 0x2E in
    let one = count_both 0x2E front back in
    let four = count_both 0x3D front back in
    let one_none = none_of 0x2E front refl all in
    let four_none = none_of 0x3D front refl all in
    let one_all = all_of (8 * asked) in
    let four_back = none_of_others (8 * asked) in
    ap sampled_count op.spelled ∙ omega (arith, one, four, one_none, four_none, one_all, four_back)
