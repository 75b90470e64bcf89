-- The words of a line that has single blanks between them.
use Rattle.std.proofs.Common.{◌≡◌, ◌∙◌, ℕ, suc, ◌+◌, ◌-◌, ◌<◌, Bool, true, false, not, cond, List, [], ◌∷◌, ◌++◌, length, take_all, get_or, refl, ap, arith, length-append}
use Rattle.std.specs.Prelude.{nat_lt, ◌==◌, ◌&&◌}
use Rattle.std.specs.List.{All, list_all, slice_index, filter, before_first, prefix_len}
use Rattle.std.proofs.Math.Seq.{get_or-append_right}
use Rattle.std.proofs.lemmas.Bool.{and_parts, ltb-true, lt-ltb, ne_eqb}
use Rattle.std.proofs.lemmas.List.Folds.{list_all-append}
use Rattle.std.proofs.lemmas.List.Splits.{slice_split_none, slice_split_at}
use Rattle.std.proofs.lemmas.List.Sums.{AllPass-from_list_all}
use Rattle.nor_base.specs.Array.{is_filled}
use Rattle.nor_lines.specs.Lines.{is_blank}
use Rattle.nor_sheet.specs.Words.{is_hash, split, words_of}
use Rattle.norprog_laws.proofs.LineLemmas.{IsLine, no_blank}

-- a word of characters past `#` in the code
abbrev pub is_plain : List ℕ → Bool
is_plain word = is_filled word && list_all (nat_lt 35) word

-- a word and those after it, with a blank between each and the next
abbrev pub spaced : List ℕ → List (List ℕ) → List ℕ
spaced word [] = word
spaced word (next ∷ words) = word ++ 32 ∷ spaced next words

plain_at : (word : List ℕ) (k d : ℕ) → list_all (nat_lt 35) word ≡ true → k < length word → 35 < get_or word k d
plain_at word k d high within = ltb-true 35 (get_or word k d) (AllPass-from_list_all (nat_lt 35) word high k d within)

no_blanks : (word : List ℕ) → list_all (nat_lt 35) word ≡ true → All (λ c. is_blank c ≡ false) word
no_blanks word high = λ k d within. no_blank (get_or word k d) (plain_at word k d high within)

kept_first : (b : Bool) (word : List ℕ) (others : List (List ℕ)) → b ≡ true → cond b (word ∷ others) others ≡ word ∷ others
kept_first b word others e = rw e refl

-- such a line is split into its words
split_spaced : (word : List ℕ) (words : List (List ℕ)) → is_plain word ≡ true → list_all is_plain words ≡ true → split (spaced word words) ≡ word ∷ words
split_spaced word [] plain all =
    let parts = and_parts (is_filled word) (list_all (nat_lt 35) word) plain in
    ap (filter is_filled) (slice_split_none is_blank word (no_blanks word parts.1)) ∙ kept_first (is_filled word) word [] parts.0
split_spaced word (next ∷ words) plain all =
    let parts = and_parts (is_filled word) (list_all (nat_lt 35) word) plain in
    let rest = and_parts (is_plain next) (list_all is_plain words) all in
    ap (filter is_filled) (slice_split_at is_blank word 32 (spaced next words) (no_blanks word parts.1) refl)
    ∙ kept_first (is_filled word) word (split (spaced next words)) parts.0
    ∙ ap (λ ws. word ∷ ws) (split_spaced next words rest.0 rest.1)

-- its characters are blanks and others past the blanks, and no `#`
abbrev is_safe : ℕ → Bool
is_safe c = nat_lt 31 c && not (is_hash c)

safe : (c : ℕ) → 35 < c → is_safe c ≡ true
safe c past =
    let high : nat_lt 31 c ≡ true = lt-ltb 31 c (omega (arith, past)) in
    let other : (c == 35) ≡ false = ne_eqb c 35 (λ e. absurd (omega (arith, e, past))) in
    rw (high, other) refl

safe_word : (word : List ℕ) → list_all (nat_lt 35) word ≡ true → list_all is_safe word ≡ true
safe_word [] high = refl
safe_word (c ∷ word) high =
    let parts = and_parts (nat_lt 35 c) (list_all (nat_lt 35) word) high in
    rw (safe c (ltb-true 35 c parts.0)) (safe_word word parts.1)

safe_spaced : (word : List ℕ) (words : List (List ℕ)) → is_plain word ≡ true → list_all is_plain words ≡ true → list_all is_safe (spaced word words) ≡ true
safe_spaced word [] plain all = safe_word word (and_parts (is_filled word) (list_all (nat_lt 35) word) plain).1
safe_spaced word (next ∷ words) plain all =
    let rest = and_parts (is_plain next) (list_all is_plain words) all in
    list_all-append is_safe word (32 ∷ spaced next words)
    ∙ rw (safe_word word (and_parts (is_filled word) (list_all (nat_lt 35) word) plain).1) (safe_spaced next words rest.0 rest.1)

high_line : (line : List ℕ) → list_all is_safe line ≡ true → list_all (nat_lt 31) line ≡ true
high_line [] all = refl
high_line (c ∷ line) all =
    let parts = and_parts (is_safe c) (list_all is_safe line) all in
    rw ((and_parts (nat_lt 31 c) (not (is_hash c)) parts.0).0) (high_line line parts.1)

no_hash : (line : List ℕ) → list_all is_safe line ≡ true → prefix_len (λ c. not (is_hash c)) line ≡ length line
no_hash [] all = refl
no_hash (c ∷ line) all =
    let parts = and_parts (is_safe c) (list_all is_safe line) all in
    let other = (and_parts (nat_lt 31 c) (not (is_hash c)) parts.0).1 in
    let more : 1 + prefix_len (λ c. not (is_hash c)) line ≡ length (c ∷ line) = omega (arith, no_hash line parts.1) in
    ap (λ b. cond b (1 + prefix_len (λ c. not (is_hash c)) line) 0) other ∙ more

no_comment : (line : List ℕ) → list_all is_safe line ≡ true → before_first is_hash line ≡ line
no_comment line all = take_all (prefix_len (λ c. not (is_hash c)) line) line (omega (arith, no_hash line all))

-- its words, as a sheet reads them
pub spaced_words : (word : List ℕ) (words : List (List ℕ)) → is_plain word ≡ true → list_all is_plain words ≡ true → words_of (spaced word words) ≡ word ∷ words
spaced_words word words plain all = ap split (no_comment (spaced word words) (safe_spaced word words plain all)) ∙ split_spaced word words plain all

filled_long : (word : List ℕ) → is_filled word ≡ true → 0 < length word
filled_long [] h = cc
filled_long (c ∷ word) h = omega arith

some_spaced : (word : List ℕ) (words : List (List ℕ)) → is_plain word ≡ true → 0 < length (spaced word words)
some_spaced word [] plain = filled_long word (and_parts (is_filled word) (list_all (nat_lt 35) word) plain).0
some_spaced word (next ∷ words) plain = omega (arith, length-append word (32 ∷ spaced next words))

last_spaced : (word : List ℕ) (words : List (List ℕ)) → is_plain word ≡ true → list_all is_plain words ≡ true → 35 < slice_index (spaced word words) (length (spaced word words) - 1)
last_spaced word [] plain all =
    let parts = and_parts (is_filled word) (list_all (nat_lt 35) word) plain in
    plain_at word (length word - 1) 0 parts.1 (omega (arith, filled_long word parts.0))
last_spaced word (next ∷ words) plain all =
    let rest = and_parts (is_plain next) (list_all is_plain words) all in
    let line = spaced next words in
    let some = some_spaced next words rest.0 in
    let whole = length-append word (32 ∷ line) in
    let place : length (word ++ 32 ∷ line) - 1 - length word ≡ suc (length line - 1) = omega (arith, whole, some) in
    let same : slice_index (word ++ 32 ∷ line) (length (word ++ 32 ∷ line) - 1) ≡ slice_index line (length line - 1) =
    get_or-append_right word (32 ∷ line) (length (word ++ 32 ∷ line) - 1) 0 (omega (arith, whole, some)) ∙ ap (slice_index (32 ∷ line)) place in
    omega (arith, same, last_spaced next words rest.0 rest.1)

pub spaced_line : (word : List ℕ) (words : List (List ℕ)) → is_plain word ≡ true → list_all is_plain words ≡ true → IsLine (spaced word words)
spaced_line word words plain all = record {
  some = some_spaced word words plain;
  high = high_line (spaced word words) (safe_spaced word words plain all);
  last = last_spaced word words plain all;
}
