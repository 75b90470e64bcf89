-- The lines of a text that ends each.
use Rattle.std.proofs.Common.{◌≡◌, ◌≢◌, ℕ, ◌+◌, ◌-◌, ◌<◌, inr, Bool, true, false, List, [], ◌∷◌, ◌++◌, length, map, take, take_all, refl, sym, ap, ◌∙◌, arith, length-append}
use Rattle.std.specs.Prelude.{flat_map, nat_lt, ◌==◌, ◌&&◌, ◌||◌}
use Rattle.std.specs.List.{AllByRecursion, list_all, slice_index, filter, enumerate_from, suffix_len}
use Rattle.std.proofs.Math.ListN.{get_or-append}
use Rattle.std.proofs.Math.Seq.{get_or-append_right}
use Rattle.std.proofs.lemmas.Bool.{ne_eqb, ltb-true, cond-true, cond-false}
use Rattle.std.proofs.lemmas.List.Sums.{suffix_len-take_no, AllPass-from_list_all}
use Rattle.bstr.specs.Text.{lines_of, without_terminator, no_cr}
use Rattle.bstr.proofs.lemmas.LineLemmas.{EndsLine, lines-nil, lines-append, lines-one}
use Rattle.nor_base.specs.Script.{closed}
use Rattle.nor_lines.specs.Lines.{is_blank, trimmed, filled_from, filled_lines}

-- a line of blanks and characters past them in the code, the last none of the blanks
pub record IsLine (line : List ℕ) : Type 0 where
  pub some : 0 < length line
  pub high : list_all (nat_lt 31) line ≡ true
  pub last : 35 < slice_index line (length line - 1)

high_at : (line : List ℕ) (k : ℕ) → list_all (nat_lt 31) line ≡ true → k < length line → 31 < slice_index line k
high_at line k high within = ltb-true 31 (slice_index line k) (AllPass-from_list_all (nat_lt 31) line high k 0 within)

last_is : (line : List ℕ) → slice_index (closed line) (length line) ≡ 10
last_is line = let nothing : length line - length line ≡ 0 = omega arith in get_or-append_right line (10 ∷ []) (length line) 0 (omega arith) ∙ ap (slice_index (10 ∷ [])) nothing

one_longer : (line : List ℕ) → length (closed line) ≡ length line + 1
one_longer line = omega (arith, length-append line (10 ∷ []))

ends : (line : List ℕ) → EndsLine (closed line)
ends line =
    let place : length (closed line) - 1 ≡ length line = omega (arith, one_longer line) in
    inr (ap (slice_index (closed line)) place ∙ last_is line)

alone : (line : List ℕ) → IsLine line → lines_of (closed line) ≡ closed line ∷ []
alone line is = lines-one (closed line) (omega (arith, one_longer line)) (λ k below.
    let within : k < length line = omega (arith, one_longer line) in
    λ feed. let same : slice_index (closed line) k ≡ slice_index line k = get_or-append line (10 ∷ []) 0 k within in
    let past = high_at line k is.high within in
    absurd (omega (arith, feed, same, past)))

each_line : (lines : List (List ℕ)) → AllByRecursion IsLine lines → lines_of (flat_map closed lines) ≡ map closed lines
each_line [] all = lines-nil
each_line (line ∷ lines) all =
    lines-append (length (closed line)) (closed line) (flat_map closed lines) (omega arith) (ends line)
    ∙ ap (λ front. front ++ lines_of (flat_map closed lines)) (alone line all.0)
    ∙ ap (λ rest. closed line ∷ rest) (each_line lines all.1)

cut_off : (line : List ℕ) → IsLine line → without_terminator (closed line) ≡ line
cut_off line is =
    let place : length (closed line) - 1 ≡ length line = omega (arith, one_longer line) in
    let feed : (slice_index (closed line) (length (closed line) - 1) == 10) ≡ true = ap (λ k. slice_index (closed line) k == 10) place ∙ ap (λ c. c == 10) (last_is line) in
    let longer : nat_lt 0 (length (closed line)) ≡ true = ap (nat_lt 0) (one_longer line) ∙ positive (length line) in
    let past = is.last in
    let other : slice_index line (length line - 1) ≢ 13 = λ e. absurd (omega (arith, e, past)) in
    let no_return : (slice_index line (length line - 1) == 13) ≡ false = ne_eqb (slice_index line (length line - 1)) 13 other in
    cond-true _ _ _ (and_true (nat_lt 0 (length (closed line))) (slice_index (closed line) (length (closed line) - 1) == 10) longer feed)
    ∙ ap no_cr (ap (λ k. take k (closed line)) place ∙ front line)
    ∙ cond-false _ _ _ (and_false (nat_lt 0 (length line)) (slice_index line (length line - 1) == 13) no_return)
  where
    and_true : (a b : Bool) → a ≡ true → b ≡ true → (a && b) ≡ true
    and_true a b p q = rw (p, q) refl

    and_false : (a b : Bool) → b ≡ false → (a && b) ≡ false
    and_false true b q = q
    and_false false b q = refl

    positive : (n : ℕ) → nat_lt 0 (n + 1) ≡ true
    positive n = grind arith

    front : (line : List ℕ) → take (length line) (closed line) ≡ line
    front [] = refl
    front (x ∷ xs) = ap (λ rest. x ∷ rest) (front xs)

pub no_blank : (c : ℕ) → 35 < c → is_blank c ≡ false
no_blank c past =
    let space : c ≢ 32 = λ e. absurd (omega (arith, e, past)) in
    let tab : c ≢ 9 = λ e. absurd (omega (arith, e, past)) in
    let return : c ≢ 13 = λ e. absurd (omega (arith, e, past)) in
    none (c == 32) (c == 9) (c == 13) (ne_eqb c 32 space) (ne_eqb c 9 tab) (ne_eqb c 13 return)
  where
    none : (x y z : Bool) → x ≡ false → y ≡ false → z ≡ false → ((x || y) || z) ≡ false
    none x y z p q r = rw (p, q, r) refl

kept : (line : List ℕ) → IsLine line → trimmed line ≡ line
kept line is =
    let n = length line in
    let all : take n line ≡ line = take_all n line (omega arith) in
    let nothing : suffix_len is_blank line ≡ 0 =
    ap (suffix_len is_blank) (sym all) ∙ suffix_len-take_no is_blank line n 0 is.some (omega arith) (no_blank (slice_index line (n - 1)) is.last) in
    let whole : n - suffix_len is_blank line ≡ n = omega (arith, nothing) in
    ap (λ k. take k line) whole ∙ all

filled : (line : List ℕ) → 0 < length line → nat_lt 0 (length line) ≡ true
filled line some = positive (length line) some
  where
    positive : (n : ℕ) → 0 < n → nat_lt 0 n ≡ true
    positive n some = grind arith

numbered_from : (n : ℕ) (lines : List (List ℕ)) → AllByRecursion IsLine lines → filled_from n (map without_terminator (map closed lines)) ≡ enumerate_from n lines
numbered_from n [] all = refl
numbered_from n (line ∷ lines) all =
    let same : trimmed (without_terminator (closed line)) ≡ line = ap trimmed (cut_off line all.0) ∙ kept line all.0 in
    ap (λ l. filter (λ l. nat_lt 0 (length l.1)) ((n, l) ∷ enumerate_from (n + 1) (map trimmed (map without_terminator (map closed lines))))) same
    ∙ cond-true _ _ _ (filled line all.0.some)
    ∙ ap (λ rest. (n, line) ∷ rest) (numbered_from (n + 1) lines all.1)

-- the lines of a text that ends each, with their numbers
pub lines_back : (lines : List (List ℕ)) → AllByRecursion IsLine lines → filled_lines (flat_map closed lines) ≡ enumerate_from 1 lines
lines_back lines all = ap (λ ls. filled_from 1 (map without_terminator ls)) (each_line lines all) ∙ numbered_from 1 lines all
