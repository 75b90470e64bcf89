-- A text is that of one list of steps, and none begins another.
use Rattle.std.proofs.Common.{◌≡◌, ◌≢◌, ℕ, ◌+◌, ◌-◌, ◌/◌, ◌%◌, ◌<◌, ◌≤◌, nat_lt, true, false, if◌then◌else◌, List, [], ◌∷◌, ◌++◌, length, drop, get_or, refl, sym, ◌∙◌, ap, subst, arith, append_assoc, append-nil}
use Rattle.std.specs.Prelude.{codes, flat_map}
use Rattle.std.specs.List.{list_all, AllByRecursion}
use Rattle.std.proofs.lemmas.Bool.Decides.{nat_tests}
use Rattle.std.proofs.lemmas.Bool.{and_parts, ltb-true}
use Rattle.std.proofs.lemmas.List.{append_cancel_left}
use Rattle.nor_base.specs.declared.step.Step.{Step}
use Rattle.nor_base.specs.declared.step.Step.TheVariants.{Send, Poll, Verify}
use Rattle.nor_base.specs.Array.{are_bytes, is_filled}
use Rattle.nor_base.specs.Sample.{is_symbol}
use Rattle.nor_base.specs.Step.{are_clocks, IsStep}
use Rattle.nor_laws.specs.Laws.{IsSpelled}
use Rattle.nor_base.specs.Script.{closed, hex_digit, hex_pair, step_line, header, end_line, step_lines, script_text, IsScript}

-- two texts that are alike: in front, and what follows
pub record Alike (a b x y : List ℕ) : Type 0 where
  pub front : a ≡ b
  pub rest : x ≡ y

-- two texts that tell one number, and what follows
pub record Agree (m n : ℕ) (x y : List ℕ) : Type 0 where
  pub front : m ≡ n
  pub rest : x ≡ y

-- no element is c
abbrev pub None_is : ℕ → List ℕ → Type 0
None_is c xs = AllByRecursion (λ x. x ≢ c) xs

-- two lists up to a first c are alike where all is
pub up_to : (c : ℕ) (xs ys x y : List ℕ) → None_is c xs → None_is c ys → xs ++ c ∷ x ≡ ys ++ c ∷ y → Alike xs ys x y
up_to c [] [] x y p q h = let tails : x ≡ y = cc in record { front = refl; rest = tails }
up_to c [] (b ∷ ys) x y p q h = let same : b ≡ c = cc in absurd (q.0 same)
up_to c (a ∷ xs) [] x y p q h = let same : a ≡ c = cc in absurd (p.0 same)
up_to c (a ∷ xs) (b ∷ ys) x y p q h =
    let same : a ≡ b = cc in
    let tails : xs ++ c ∷ x ≡ ys ++ c ∷ y = cc in
    let later = up_to c xs ys x y p.1 q.1 tails in
    record { front = ap (λ n. n ∷ xs) same ∙ ap (λ l. b ∷ l) later.front; rest = later.rest }

-- a byte that is no symbol isn't among symbols
none_of_symbols : (c : ℕ) (xs : List ℕ) → is_symbol c ≡ false → list_all is_symbol xs ≡ true → None_is c xs
none_of_symbols c [] other h = tt
none_of_symbols c (x ∷ xs) other h = (
  λ same.
      let symbol : is_symbol c ≡ true = subst (λ n. is_symbol n ≡ true) same (and_parts (is_symbol x) (list_all is_symbol xs) h).0 in
      let both : true ≡ false = sym symbol ∙ other in cc,
  none_of_symbols c xs other (and_parts (is_symbol x) (list_all is_symbol xs) h).1,
)

-- the value of a digit
abbrev digit_value : ℕ → ℕ
digit_value c = if nat_lt c 0x57 then c - 0x30 else c - 0x57

hex_digit_value : (n : ℕ) → n < 16 → digit_value (hex_digit n) ≡ n
hex_digit_value n h = grind (arith, nat_tests)

hex_digit_low : (n : ℕ) → 0x30 ≤ hex_digit n
hex_digit_low n = grind (arith, nat_tests)

digits_apart : (m n : ℕ) → m < 16 → n < 16 → hex_digit m ≡ hex_digit n → m ≡ n
digits_apart m n p q h = sym (hex_digit_value m p) ∙ ap digit_value h ∙ hex_digit_value n q

-- a byte, by its two digits
pub pair_apart : (b c : ℕ) (x y : List ℕ) → b < 256 → c < 256 → hex_pair b ++ x ≡ hex_pair c ++ y → Agree b c x y
pair_apart b c x y p q h =
    let high : hex_digit (b / 16) ≡ hex_digit (c / 16) = ap (λ l. get_or l 0 0) h in
    let low : hex_digit (b % 16) ≡ hex_digit (c % 16) = ap (λ l. get_or l 1 0) h in
    let highs : b / 16 ≡ c / 16 = digits_apart (b / 16) (c / 16) (omega arith) (omega arith) high in
    let lows : b % 16 ≡ c % 16 = digits_apart (b % 16) (c % 16) (omega arith) (omega arith) low in
    record { front = omega (arith, highs, lows); rest = ap (drop 2) h }

-- numbers below 256
abbrev pub Small : List ℕ → Type 0
Small xs = AllByRecursion (λ n. n < 256) xs

pub small_bytes : (bytes : List ℕ) → are_bytes bytes ≡ true → Small bytes
small_bytes [] h = tt
small_bytes (b ∷ bytes) h =
    let parts = and_parts (nat_lt b 256) (list_all (λ n. nat_lt n 256) bytes) h in (ltb-true b 256 parts.0, small_bytes bytes parts.1)

-- bytes up to LF, by their digits
pub bytes_apart : (xs ys x y : List ℕ) → Small xs → Small ys → flat_map hex_pair xs ++ 0x0A ∷ x ≡ flat_map hex_pair ys ++ 0x0A ∷ y → Alike xs ys x y
bytes_apart [] [] x y p q h = record { front = refl; rest = ap (drop 1) h }
bytes_apart [] (c ∷ ys) x y p q h = let heads : 0x0A ≡ hex_digit (c / 16) = ap (λ l. get_or l 0 0) h in absurd (omega (arith, heads, hex_digit_low (c / 16)))
bytes_apart (b ∷ xs) [] x y p q h = let heads : hex_digit (b / 16) ≡ 0x0A = ap (λ l. get_or l 0 0) h in absurd (omega (arith, heads, hex_digit_low (b / 16)))
bytes_apart (b ∷ xs) (c ∷ ys) x y p q h =
    let one = pair_apart b c (flat_map hex_pair xs ++ 0x0A ∷ x) (flat_map hex_pair ys ++ 0x0A ∷ y) p.0 q.0 h in
    let later = bytes_apart xs ys x y p.1 q.1 one.rest in
    record { front = ap (λ n. n ∷ xs) one.front ∙ ap (λ l. c ∷ l) later.front; rest = later.rest }

-- a Verify's line after its letter and blank
verify_line : (clocks digits x : List ℕ) → ((clocks ++ (codes " " ++ digits)) ++ 0x0A ∷ []) ++ x ≡ clocks ++ 0x20 ∷ (digits ++ 0x0A ∷ x)
verify_line clocks digits x =
    append_assoc (clocks ++ (codes " " ++ digits)) (0x0A ∷ []) x ∙ append_assoc clocks (codes " " ++ digits) (0x0A ∷ x)

-- two steps, and what follows their lines
pub record SameStep (s t : Step) (x y : List ℕ) : Type 0 where
  pub is : s ≡ t
  pub rest : x ≡ y

-- clocks up to LF
clocks_apart : (a b x y : List ℕ) → list_all is_symbol a ≡ true → list_all is_symbol b ≡ true → (a ++ 0x0A ∷ []) ++ x ≡ (b ++ 0x0A ∷ []) ++ y → Alike a b x y
clocks_apart a b x y p q h =
    up_to 0x0A a b x y (none_of_symbols 0x0A a refl p) (none_of_symbols 0x0A b refl q) (sym (append_assoc a (0x0A ∷ []) x) ∙ h ∙ append_assoc b (0x0A ∷ []) y)

-- the first byte
head_of : List ℕ → ℕ
head_of l = get_or l 0 0

-- lines of two kinds of step differ in their first byte
pub spelled_apart : (s t : Step) (x y : List ℕ) → IsSpelled s → IsSpelled t → closed (step_line s) ++ x ≡ closed (step_line t) ++ y → SameStep s t x y
unfolding step_line head_of
spelled_apart (Send a) (Send b) x y p q h =
    let both = clocks_apart a b x y p.symbols q.symbols (ap (drop 2) h) in record { is = ap Send both.front; rest = both.rest }
spelled_apart (Poll a) (Poll b) x y p q h =
    let both = clocks_apart a b x y p.symbols q.symbols (ap (drop 2) h) in record { is = ap Poll both.front; rest = both.rest }
spelled_apart (Verify a d) (Verify b e) x y p q h =
    let lines : a ++ 0x20 ∷ (flat_map hex_pair d ++ 0x0A ∷ x) ≡ b ++ 0x20 ∷ (flat_map hex_pair e ++ 0x0A ∷ y) =
    sym (verify_line a (flat_map hex_pair d) x) ∙ ap (drop 2) h ∙ verify_line b (flat_map hex_pair e) y in
    let clocks = up_to 0x20 a b _ _ (none_of_symbols 0x20 a refl p.symbols) (none_of_symbols 0x20 b refl q.symbols) lines in
    let bytes = bytes_apart d e x y (small_bytes d p.bytes) (small_bytes e q.bytes) clocks.rest in
    record { is = ap (λ c. Verify c d) clocks.front ∙ ap (Verify b) bytes.front; rest = bytes.rest }
spelled_apart (Send a) (Poll b) x y p q h = let heads : 120 ≡ 112 = ap head_of h in absurd (omega (arith, heads))
spelled_apart (Send a) (Verify b e) x y p q h = let heads : 120 ≡ 118 = ap head_of h in absurd (omega (arith, heads))
spelled_apart (Poll a) (Send b) x y p q h = let heads : 112 ≡ 120 = ap head_of h in absurd (omega (arith, heads))
spelled_apart (Poll a) (Verify b e) x y p q h = let heads : 112 ≡ 118 = ap head_of h in absurd (omega (arith, heads))
spelled_apart (Verify a d) (Send b) x y p q h = let heads : 118 ≡ 120 = ap head_of h in absurd (omega (arith, heads))
spelled_apart (Verify a d) (Poll b) x y p q h = let heads : 118 ≡ 112 = ap head_of h in absurd (omega (arith, heads))

-- a step that a script may have is spelled
pub spelled_step : (s : Step) → IsStep s → IsSpelled s
spelled_step (Send a) p = record { symbols = (and_parts (is_filled a) (list_all is_symbol a) p.passes).1; bytes = p.bytes }
spelled_step (Poll a) p = record { symbols = (and_parts (is_filled a) (list_all is_symbol a) p.passes).1; bytes = p.bytes }
spelled_step (Verify a d) p =
    let clocks : are_clocks a ≡ true = (and_parts (are_clocks a) (is_filled d) p.passes).0 in
    record { symbols = (and_parts (is_filled a) (list_all is_symbol a) clocks).1; bytes = p.bytes }

pub step_apart : (s t : Step) (x y : List ℕ) → IsStep s → IsStep t → closed (step_line s) ++ x ≡ closed (step_line t) ++ y → SameStep s t x y
step_apart s t x y p q h = spelled_apart s t x y (spelled_step s p) (spelled_step t q) h

-- a line isn't empty
no_line : (t : Step) (x : List ℕ) → [] ≡ closed (step_line t) ++ x → ⊥
unfolding step_line head_of
no_line (Send b) x h = let heads : 0 ≡ 120 = ap head_of h in omega (arith, heads)
no_line (Poll b) x h = let heads : 0 ≡ 112 = ap head_of h in omega (arith, heads)
no_line (Verify b e) x h = let heads : 0 ≡ 118 = ap head_of h in omega (arith, heads)

-- lines alone tell steps apart
pub lines_same : (a b : List Step) → AllByRecursion IsSpelled a → AllByRecursion IsSpelled b → step_lines a ≡ step_lines b → a ≡ b
unfolding step_lines
lines_same [] [] p q h = refl
lines_same [] (t ∷ b) p q h = absurd (no_line t (step_lines b) h)
lines_same (s ∷ a) [] p q h = absurd (no_line s (step_lines a) (sym h))
lines_same (s ∷ a) (t ∷ b) p q h =
    let split = spelled_apart s t (step_lines a) (step_lines b) p.0 q.0 h in
    ap (λ step. step ∷ a) split.is ∙ ap (λ steps. t ∷ steps) (lines_same a b p.1 q.1 split.rest)

end_is_no_step : (n : ℕ) (t : Step) (x y : List ℕ) → end_line n ++ x ≡ closed (step_line t) ++ y → ⊥
unfolding end_line step_line head_of
end_is_no_step n (Send b) x y h = let heads : 101 ≡ 120 = ap head_of h in omega (arith, heads)
end_is_no_step n (Poll b) x y h = let heads : 101 ≡ 112 = ap head_of h in omega (arith, heads)
end_is_no_step n (Verify b e) x y h = let heads : 101 ≡ 118 = ap head_of h in omega (arith, heads)

-- k steps stand before
lines_apart : (a b : List Step) (k : ℕ) (x y : List ℕ) → AllByRecursion IsStep a → AllByRecursion IsStep b
    → step_lines a ++ (end_line (k + length a) ++ x) ≡ step_lines b ++ (end_line (k + length b) ++ y) → (a ≡ b) × (x ≡ y)
unfolding step_lines
lines_apart [] [] k x y p q h = (refl, append_cancel_left (end_line (k + 0)) x y h)
lines_apart [] (t ∷ b) k x y p q h =
    absurd (end_is_no_step (k + 0) t x (step_lines b ++ (end_line (k + length (t ∷ b)) ++ y))
    (h ∙ append_assoc (closed (step_line t)) (step_lines b) (end_line (k + length (t ∷ b)) ++ y)))
lines_apart (s ∷ a) [] k x y p q h =
    absurd (end_is_no_step (k + 0) s y (step_lines a ++ (end_line (k + length (s ∷ a)) ++ x))
    (sym h ∙ append_assoc (closed (step_line s)) (step_lines a) (end_line (k + length (s ∷ a)) ++ x)))
lines_apart (s ∷ a) (t ∷ b) k x y p q h =
    let split = step_apart s t (step_lines a ++ (end_line (k + length (s ∷ a)) ++ x)) (step_lines b ++ (end_line (k + length (t ∷ b)) ++ y)) p.0 q.0
    (sym (append_assoc (closed (step_line s)) (step_lines a) (end_line (k + length (s ∷ a)) ++ x)) ∙ h
    ∙ append_assoc (closed (step_line t)) (step_lines b) (end_line (k + length (t ∷ b)) ++ y)) in
    let count_a : k + length (s ∷ a) ≡ (k + 1) + length a = omega arith in
    let count_b : k + length (t ∷ b) ≡ (k + 1) + length b = omega arith in
    let rest : step_lines a ++ (end_line ((k + 1) + length a) ++ x) ≡ step_lines b ++ (end_line ((k + 1) + length b) ++ y) =
    ap (λ n. step_lines a ++ (end_line n ++ x)) (sym count_a) ∙ split.rest ∙ ap (λ n. step_lines b ++ (end_line n ++ y)) count_b in
    let later = lines_apart a b (k + 1) x y p.1 q.1 rest in
    let lists : s ∷ a ≡ t ∷ b = ap (λ step. step ∷ a) split.is ∙ ap (λ steps. t ∷ steps) later.0 in
    (lists, later.1)

-- a text by its parts
text_and_more : (steps : List Step) (x : List ℕ) → script_text steps ++ x ≡ header ++ (step_lines steps ++ (end_line (0 + length steps) ++ x))
unfolding script_text
text_and_more steps x =
    let count : length steps ≡ 0 + length steps = omega arith in
    append_assoc header (step_lines steps ++ end_line (length steps)) x
    ∙ ap (λ rest. header ++ rest) (append_assoc (step_lines steps) (end_line (length steps)) x)
    ∙ ap (λ n. header ++ (step_lines steps ++ (end_line n ++ x))) count

pub texts_apart : (a b : List Step) (x y : List ℕ) → AllByRecursion IsStep a → AllByRecursion IsStep b
    → script_text a ++ x ≡ script_text b ++ y → (a ≡ b) × (x ≡ y)
texts_apart a b x y p q h =
    lines_apart a b 0 x y p q (append_cancel_left header _ _ (sym (text_and_more a x) ∙ h ∙ text_and_more b y))

-- a text with nothing after it
whole_text : (text : List ℕ) (steps : List Step) → IsScript text steps → text ≡ script_text steps ++ []
whole_text text steps script = script.spelled ∙ sym (append-nil (script_text steps))

pub one_list : (text : List ℕ) (a b : List Step) → IsScript text a → IsScript text b → a ≡ b
one_list text a b p q = (texts_apart a b [] [] p.each q.each (sym (whole_text text a p) ∙ whole_text text b q)).0

pub no_proper_prefix : (a b : List Step) (t u rest : List ℕ) → IsScript t a → IsScript u b → u ≡ t ++ rest → rest ≡ []
no_proper_prefix a b t u rest p q h =
    (texts_apart a b rest [] p.each q.each (ap (λ text. text ++ rest) (sym p.spelled) ∙ sym h ∙ whole_text u b q)).1
