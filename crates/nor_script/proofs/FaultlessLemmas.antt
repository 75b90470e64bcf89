-- A script's text has no fault.
use Rattle.std.proofs.Common.{◌≡◌, ℕ, zero, suc, ◌+◌, ◌/◌, ◌%◌, ◌<◌, ◌≤◌, ◌==◌, nat_lt, not, ◌&&◌, ◌||◌, Bool, true, false, if◌then◌else◌, List, [], ◌∷◌, ◌++◌, length, take, drop, get_or, Some, None, refl, sym, ◌∙◌, ap, subst, arith, append_assoc, append-nil, eq-eqb}
use Rattle.std.specs.Prelude.{codes, decimal, flat_map, count_by}
use Rattle.std.specs.Fmt.{digits, digits_onto, digit_glyph}
use Rattle.std.specs.List.{list_all, list_any, AllByRecursion, before_first, after_first, position_or_len}
use Rattle.std.specs.Str.{bytes_eq}
use Rattle.std.proofs.Math.Seq.{take-append_seam}
use Rattle.std.proofs.lemmas.Bool.Decides.{nat_tests}
use Rattle.std.proofs.lemmas.Bool.{and_parts, and_from, or_parts, or_from, or_right, both_ways, eqb-false, ne_eqb, ltb-true}
use Rattle.std.proofs.lemmas.List.{append_cancel_left}
use Rattle.std.proofs.lemmas.List.Folds.{list_any-append}
use Rattle.std.proofs.lemmas.List.Sums.{sum_by-append, sum_by-cons}
use Rattle.nor_base.specs.declared.step.Step.{Step}
use Rattle.nor_base.specs.declared.step.Step.TheVariants.{Send, Poll, Verify}
use Rattle.nor_base.specs.Array.{are_bytes, is_filled}
use Rattle.nor_base.specs.Sample.{is_symbol}
use Rattle.nor_base.specs.Script.{closed, hex_digit, hex_pair, step_line, header, end_line, step_lines, script_text, IsScript}
use Rattle.nor_base.specs.Step.{are_clocks, IsStep}
use Rattle.nor_laws.specs.Laws.{TextsApart}
use Rattle.nor_script.specs.declared.fault.ScriptFault.{ScriptFault}
use Rattle.nor_script.specs.declared.fault.ScriptFault.TheVariants.{Header, BadLine, BadSymbol, BadCount, NoEnd, AfterEnd, Memory}
use Rattle.nor_script.specs.Faults.{IsRight, HasBadLine, LacksEnd, GoesOn, IsFault, is_line_feed}
use Rattle.nor_script.specs.Line.{is_blank, are_two_parts, is_lower_digit, are_pairs, clocks_fault, verify_fault, line_fault}

-- no element is c
abbrev Lacks : ℕ → List ℕ → Type 0
Lacks c xs = list_any (λ x. x == c) xs ≡ false

-- two lists up to a first c are alike where all is
up_to : (c : ℕ) (xs ys x y : List ℕ) → Lacks c xs → Lacks c ys → xs ++ c ∷ x ≡ ys ++ c ∷ y → (xs ≡ ys) × (x ≡ y)
up_to c [] [] x y p q h = let tails : x ≡ y = cc in (refl, tails)
up_to c [] (b ∷ ys) x y p q h =
    let same : b ≡ c = cc in absurd (eqb-false b c (or_parts (b == c) (list_any (λ z. z == c) ys) q).0 same)
up_to c (a ∷ xs) [] x y p q h =
    let same : a ≡ c = cc in absurd (eqb-false a c (or_parts (a == c) (list_any (λ z. z == c) xs) p).0 same)
up_to c (a ∷ xs) (b ∷ ys) x y p q h =
    let same : a ≡ b = cc in
    let tails : xs ++ c ∷ x ≡ ys ++ c ∷ y = cc in
    let later = up_to c xs ys x y (or_parts (a == c) (list_any (λ z. z == c) xs) p).1 (or_parts (b == c) (list_any (λ z. z == c) ys) q).1 tails in
    (ap (λ n. n ∷ xs) same ∙ ap (λ l. b ∷ l) later.0, later.1)

lacks_both : (c : ℕ) (xs ys : List ℕ) → Lacks c xs → Lacks c ys → Lacks c (xs ++ ys)
lacks_both c xs ys p q = list_any-append (λ x. x == c) xs ys ∙ or_from (list_any (λ x. x == c) xs) (list_any (λ x. x == c) ys) p q

-- a byte that is no symbol isn't among symbols
symbols_lack : (c : ℕ) (xs : List ℕ) → is_symbol c ≡ false → list_all is_symbol xs ≡ true → Lacks c xs
symbols_lack c [] other h = refl
symbols_lack c (x ∷ xs) other h =
    let parts = and_parts (is_symbol x) (list_all is_symbol xs) h in
    or_from (x == c) (list_any (λ z. z == c) xs) (ne_eqb x c (λ same. both_ways (is_symbol c) other (subst (λ n. is_symbol n ≡ true) same parts.0)))
    (symbols_lack c xs other parts.1)

digit_high : (n : ℕ) → 0x30 ≤ hex_digit n
digit_high n = grind (arith, nat_tests)

digits_lack : (c : ℕ) (bytes : List ℕ) → c < 0x30 → Lacks c (flat_map hex_pair bytes)
digits_lack c [] low = refl
digits_lack c (b ∷ bytes) low =
    let high = digit_high (b / 16) in
    let small = digit_high (b % 16) in
    or_from (hex_digit (b / 16) == c) ((hex_digit (b % 16) == c) || list_any (λ z. z == c) (flat_map hex_pair bytes))
    (ne_eqb (hex_digit (b / 16)) c (λ same. omega (arith, same, high, low)))
    (or_from (hex_digit (b % 16) == c) (list_any (λ z. z == c) (flat_map hex_pair bytes)) (ne_eqb (hex_digit (b % 16)) c (λ same. omega (arith, same, small, low)))
    (digits_lack c bytes low))

-- a step's line has no LF
step_lacks : (s : Step) → IsStep s → Lacks 0x0A (step_line s)
unfolding step_line
step_lacks (Send clocks) p = symbols_lack 0x0A clocks refl (and_parts (is_filled clocks) (list_all is_symbol clocks) p.passes).1
step_lacks (Poll clocks) p = symbols_lack 0x0A clocks refl (and_parts (is_filled clocks) (list_all is_symbol clocks) p.passes).1
step_lacks (Verify clocks expect) p =
    let are = (and_parts (are_clocks clocks) (is_filled expect) p.passes).0 in
    lacks_both 0x0A clocks (0x20 ∷ flat_map hex_pair expect) (symbols_lack 0x0A clocks refl (and_parts (is_filled clocks) (list_all is_symbol clocks) are).1)
    (digits_lack 0x0A expect (omega arith))

glyph_high : (d : ℕ) → 48 ≤ digit_glyph false d
glyph_high d = grind (arith, nat_tests)

either_lacks : (b : Bool) (xs ys : List ℕ) → Lacks 0x0A xs → Lacks 0x0A ys → Lacks 0x0A (if b then xs else ys)
either_lacks true xs ys p q = p
either_lacks false xs ys p q = q

onto_lacks : (k n : ℕ) (later : List ℕ) → Lacks 0x0A later → Lacks 0x0A (digits_onto k 10 false n later)
onto_lacks zero n later p = p
onto_lacks (suc k) n later p =
    let glyph = digit_glyph false (n % 10) in
    let high : 48 ≤ glyph = glyph_high (n % 10) in
    let more : Lacks 0x0A (glyph ∷ later) = or_from (glyph == 0x0A) (list_any (λ z. z == 0x0A) later) (ne_eqb glyph 0x0A (λ same. omega (arith, same, high))) p in
    either_lacks (n / 10 == 0) (glyph ∷ later) (digits_onto k 10 false (n / 10) (glyph ∷ later)) more (onto_lacks k (n / 10) (glyph ∷ later) more)

decimal_lacks : (n : ℕ) → Lacks 0x0A (decimal n)
unfolding digits
decimal_lacks n = onto_lacks 64 n [] refl

-- the end line without its LF
abbrev end_words : ℕ → List ℕ
end_words n = codes "end " ++ decimal n

-- a line's LF, and what follows
line_then : (line xs ys : List ℕ) → (closed line ++ xs) ++ ys ≡ line ++ 0x0A ∷ (xs ++ ys)
line_then line xs ys = append_assoc (closed line) xs ys ∙ append_assoc line (0x0A ∷ []) (xs ++ ys)

no_step_ends : (n : ℕ) (s : Step) (xs ys : List ℕ) → (closed (step_line s) ++ xs) ++ ys ≡ end_line n → ⊥
unfolding step_line end_line
no_step_ends n (Send clocks) xs ys h = let heads : 120 ≡ 101 = ap (λ l. get_or l 0 0) h in omega (arith, heads)
no_step_ends n (Poll clocks) xs ys h = let heads : 112 ≡ 101 = ap (λ l. get_or l 0 0) h in omega (arith, heads)
no_step_ends n (Verify clocks expect) xs ys h = let heads : 118 ≡ 101 = ap (λ l. get_or l 0 0) h in omega (arith, heads)

-- of a list of steps with an end line after it, what is left after so many lines
record IsLeft (above count n : ℕ) (rest : List ℕ) : Type 0 where
  left : List Step
  each : AllByRecursion IsStep left
  together : count ≡ above + length left
  whole : rest ≡ step_lines left ++ end_line n

follow : (a b : List Step) (n : ℕ) (rest : List ℕ) → AllByRecursion IsStep a → AllByRecursion IsStep b → step_lines a ++ rest ≡ step_lines b ++ end_line n
    → IsLeft (length a) (length b) n rest
unfolding step_lines
follow [] b n rest p q h = record { left = b; each = q; together = omega arith; whole = h }
follow (s ∷ a) [] n rest p q h = absurd (no_step_ends n s (step_lines a) rest h)
follow (s ∷ a) (t ∷ b) n rest p q h =
    let both = up_to 0x0A (step_line s) (step_line t) (step_lines a ++ rest) (step_lines b ++ end_line n) (step_lacks s p.0) (step_lacks t q.0)
    (sym (line_then (step_line s) (step_lines a) rest) ∙ h ∙ line_then (step_line t) (step_lines b) (end_line n)) in
    let later = follow a b n rest p.1 q.1 both.1 in
    record { left = later.left; each = later.each; together = omega (arith, later.together); whole = later.whole }

left_of : (text : List ℕ) (steps above : List Step) (rest : List ℕ) → IsScript text steps → IsRight text above rest
    → IsLeft (length above) (length steps) (length steps) rest
unfolding script_text
left_of text steps above rest script right =
    follow above steps (length steps) rest right.each script.each (append_cancel_left header _ _ (sym right.whole ∙ script.spelled))

clocks_by : (n : ℕ) (filled symbols : Bool) → (filled && symbols) ≡ true
    → (if not filled then Some (BadLine n) else if not symbols then Some (BadSymbol n) else None) ≡ None
clocks_by n true true h = refl
clocks_by n true false h = cc
clocks_by n false symbols h = cc

clocks_right : (n : ℕ) (clocks : List ℕ) → are_clocks clocks ≡ true → clocks_fault n clocks ≡ None
clocks_right n clocks h = clocks_by n (is_filled clocks) (list_all is_symbol clocks) h

-- the first blank of what lacks one up to there
blank_at : (xs ys : List ℕ) → Lacks 0x20 xs → position_or_len is_blank (xs ++ 0x20 ∷ ys) ≡ length xs
blank_at [] ys p = refl
blank_at (x ∷ xs) ys p =
    let parts = or_parts (x == 0x20) (list_any (λ z. z == 0x20) xs) p in
    let other : (x == 0x20) ≡ false = parts.0 in
    let more : position_or_len is_blank (xs ++ 0x20 ∷ ys) ≡ length xs = blank_at xs ys parts.1 in
    ap (λ b. if not b then 1 + position_or_len is_blank (xs ++ 0x20 ∷ ys) else 0) other ∙ (let later : 1 + position_or_len is_blank (xs ++ 0x20 ∷ ys) ≡ suc (length xs) = omega (arith, more) in later)

drop_seam : (xs : List ℕ) (c : ℕ) (ys : List ℕ) → drop (length xs + 1) (xs ++ c ∷ ys) ≡ ys
drop_seam [] c ys = refl
drop_seam (x ∷ xs) c ys =
    let count : suc (length xs) + 1 ≡ suc (length xs + 1) = omega arith in
    ap (λ n. drop n (x ∷ (xs ++ c ∷ ys))) count ∙ drop_seam xs c ys

before_is : (xs ys : List ℕ) → Lacks 0x20 xs → before_first is_blank (xs ++ 0x20 ∷ ys) ≡ xs
before_is xs ys p = ap (λ n. take n (xs ++ 0x20 ∷ ys)) (blank_at xs ys p) ∙ take-append_seam xs (0x20 ∷ ys)

after_is : (xs ys : List ℕ) → Lacks 0x20 xs → after_first is_blank (xs ++ 0x20 ∷ ys) ≡ ys
after_is xs ys p = ap (λ n. drop (n + 1) (xs ++ 0x20 ∷ ys)) (blank_at xs ys p) ∙ drop_seam xs 0x20 ys

none_counted : (xs : List ℕ) → Lacks 0x20 xs → count_by is_blank xs ≡ 0
none_counted [] p = refl
none_counted (x ∷ xs) p =
    let parts = or_parts (x == 0x20) (list_any (λ z. z == 0x20) xs) p in
    sum_by-cons (λ z. if is_blank z then 1 else 0) x xs ∙ ap (λ b. (if b then 1 else 0) + count_by is_blank xs) parts.0
    ∙ (let later = none_counted xs parts.1 in let sum : 0 + count_by is_blank xs ≡ 0 = omega (arith, later) in sum)

one_counted : (xs ys : List ℕ) → Lacks 0x20 xs → Lacks 0x20 ys → count_by is_blank (xs ++ 0x20 ∷ ys) ≡ 1
one_counted xs ys p q =
    let one : ℕ → ℕ = λ z. if is_blank z then 1 else 0 in
    let first = none_counted xs p in
    let second = none_counted ys q in
    sum_by-append one xs (0x20 ∷ ys) ∙ ap (λ n. n + count_by is_blank (0x20 ∷ ys)) first ∙ ap (λ n. 0 + n) (sum_by-cons one 0x20 ys) ∙ ap (λ n. 0 + (1 + n)) second

digit_lower : (n : ℕ) → n < 16 → is_lower_digit (hex_digit n) ≡ true
digit_lower n small = grind (arith, nat_tests)

digits_lower : (bytes : List ℕ) → are_bytes bytes ≡ true → list_all is_lower_digit (flat_map hex_pair bytes) ≡ true
digits_lower [] small = refl
digits_lower (b ∷ bytes) small =
    let parts = and_parts (nat_lt b 256) (are_bytes bytes) small in
    let fits : b < 256 = ltb-true b 256 parts.0 in
    and_from (is_lower_digit (hex_digit (b / 16))) (is_lower_digit (hex_digit (b % 16)) && list_all is_lower_digit (flat_map hex_pair bytes))
    (digit_lower (b / 16) (omega (arith, fits)))
    (and_from (is_lower_digit (hex_digit (b % 16))) (list_all is_lower_digit (flat_map hex_pair bytes)) (digit_lower (b % 16) (omega arith)) (digits_lower bytes parts.1))

digits_even : (bytes : List ℕ) → length (flat_map hex_pair bytes) % 2 ≡ 0
digits_even [] = refl
digits_even (b ∷ bytes) = let later = digits_even bytes in omega (arith, later)

digits_filled : (bytes : List ℕ) → is_filled bytes ≡ true → is_filled (flat_map hex_pair bytes) ≡ true
digits_filled [] h = h
digits_filled (b ∷ bytes) h = refl

verify_by : (n : ℕ) (two symbols pairs : Bool) → two ≡ true → symbols ≡ true → pairs ≡ true
    → (if not two then Some (BadLine n) else if not symbols then Some (BadSymbol n) else if not pairs then Some (BadLine n) else None) ≡ None
verify_by n true true true p q r = refl
verify_by n true true false p q r = cc
verify_by n true false pairs p q r = cc
verify_by n false symbols pairs p q r = cc

verify_right : (n : ℕ) (clocks expect : List ℕ) → IsStep (Verify clocks expect) → verify_fault n (clocks ++ 0x20 ∷ flat_map hex_pair expect) ≡ None
verify_right n clocks expect p =
    let text = flat_map hex_pair expect in
    let rest = clocks ++ 0x20 ∷ text in
    let passes = and_parts (are_clocks clocks) (is_filled expect) p.passes in
    let are = and_parts (is_filled clocks) (list_all is_symbol clocks) passes.0 in
    let lacks : Lacks 0x20 clocks = symbols_lack 0x20 clocks refl are.1 in
    let before : before_first is_blank rest ≡ clocks = before_is clocks text lacks in
    let after : after_first is_blank rest ≡ text = after_is clocks text lacks in
    verify_by n (are_two_parts rest) (list_all is_symbol (before_first is_blank rest)) (are_pairs (after_first is_blank rest))
    (and_from (count_by is_blank rest == 1) (is_filled (before_first is_blank rest) && is_filled (after_first is_blank rest))
    (eq-eqb (count_by is_blank rest) 1 (one_counted clocks text lacks (digits_lack 0x20 expect (omega arith))))
    (and_from (is_filled (before_first is_blank rest)) (is_filled (after_first is_blank rest)) (ap is_filled before ∙ are.0) (ap is_filled after ∙ digits_filled expect passes.1)))
    (ap (list_all is_symbol) before ∙ are.1)
    (ap are_pairs after ∙ and_from (length text % 2 == 0) (list_all is_lower_digit text) (eq-eqb (length text % 2) 0 (digits_even expect)) (digits_lower expect p.bytes))

step_right : (k : ℕ) (s : Step) → IsStep s → line_fault k (step_line s) ≡ None
unfolding step_line
step_right k (Send clocks) p = clocks_right (k + 2) clocks p.passes
step_right k (Poll clocks) p = clocks_right (k + 2) clocks p.passes
step_right k (Verify clocks expect) p = verify_right (k + 2) clocks expect p

text_is_text : (xs : List ℕ) → bytes_eq xs xs ≡ true
text_is_text [] = refl
text_is_text (x ∷ xs) = and_from (x == x) (bytes_eq xs xs) (eq-eqb x x refl) (text_is_text xs)

end_right : (k n : ℕ) → n ≡ k → line_fault k (end_words n) ≡ None
end_right k n same =
    ap (λ text. if bytes_eq (decimal n) text then None else Some (BadCount (k + 2))) (ap decimal (sym same))
    ∙ ap (λ b. if b then None else Some (BadCount (k + 2))) (text_is_text (decimal n))

line_right : (left : List Step) (n k : ℕ) (line more : List ℕ) → AllByRecursion IsStep left → n ≡ k + length left → Lacks 0x0A line
    → closed line ++ more ≡ step_lines left ++ end_line n → line_fault k line ≡ None
unfolding step_lines end_line
line_right [] n k line more each together lacks h =
    let both = up_to 0x0A line (end_words n) more [] lacks (decimal_lacks n) (sym (append_assoc line (0x0A ∷ []) more) ∙ h) in
    let same : n ≡ k = omega (arith, together) in
    ap (line_fault k) both.0 ∙ end_right k n same
line_right (s ∷ left) n k line more each together lacks h =
    let both = up_to 0x0A line (step_line s) more (step_lines left ++ end_line n) lacks (step_lacks s each.0)
    (sym (append_assoc line (0x0A ∷ []) more) ∙ h ∙ line_then (step_line s) (step_lines left) (end_line n)) in
    ap (line_fault k) both.0 ∙ step_right k s each.0

no_bad_line : (text : List ℕ) (steps : List Step) (fault : ScriptFault) → IsScript text steps → HasBadLine text fault → ⊥
no_bad_line text steps fault script bad =
    let left = left_of text steps bad.above bad.rest script bad.right in
    let right : line_fault (length bad.above) bad.line ≡ None =
    line_right left.left (length steps) (length bad.above) bad.line bad.more left.each left.together bad.first.one (sym bad.first.whole ∙ left.whole) in
    let apart = sym right ∙ bad.here in cc

ends_somewhere : (xs : List Step) (n : ℕ) → list_any is_line_feed (step_lines xs ++ end_line n) ≡ true
unfolding end_line
ends_somewhere xs n =
    list_any-append is_line_feed (step_lines xs) (end_line n)
    ∙ or_right (list_any is_line_feed (step_lines xs)) (list_any is_line_feed (end_line n))
    (list_any-append is_line_feed (end_words n) (0x0A ∷ []) ∙ or_right (list_any is_line_feed (end_words n)) true refl)

no_end_missing : (text : List ℕ) (steps : List Step) (n : ℕ) → IsScript text steps → LacksEnd text n → ⊥
no_end_missing text steps n script lacks =
    let left = left_of text steps lacks.above lacks.rest script lacks.right in
    both_ways (list_any is_line_feed lacks.rest) lacks.unclosed (ap (list_any is_line_feed) left.whole ∙ ends_somewhere left.left (length steps))

nothing_after : TextsApart → (text : List ℕ) (steps : List Step) (n : ℕ) → IsScript text steps → GoesOn text n → ⊥
nothing_after apart text steps n script on =
    let both = apart steps on.steps [] (on.byte ∷ on.more) script.each on.each (append-nil (script_text steps) ∙ sym script.spelled ∙ on.whole) in
    let tails = both.1 in cc

pub faultless : TextsApart → (text : List ℕ) (steps : List Step) (fault : ScriptFault) → IsScript text steps → IsFault text fault → ⊥
unfolding script_text
faultless apart text steps (Header n) script (one, none) = none (step_lines steps ++ end_line (length steps)) script.spelled
faultless apart text steps (BadLine n) script bad = no_bad_line text steps (BadLine n) script bad
faultless apart text steps (BadSymbol n) script bad = no_bad_line text steps (BadSymbol n) script bad
faultless apart text steps (BadCount n) script bad = no_bad_line text steps (BadCount n) script bad
faultless apart text steps (NoEnd n) script bad = no_end_missing text steps n script bad
faultless apart text steps (AfterEnd n) script bad = nothing_after apart text steps n script bad
faultless apart text steps Memory script bad = bad
