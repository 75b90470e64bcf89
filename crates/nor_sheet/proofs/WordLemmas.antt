-- The words of a text, one by one.
use Rattle.std.proofs.Common.{◌≡◌, ◌∙◌, ℕ, ◌+◌, ◌<◌, ◌≤◌, nat_lt, suc, Bool, true, false, not, cond, List, [], ◌∷◌, ◌++◌, length, drop, Some, None, inl, inr, refl, sym, ap, arith, append_assoc, append-nil, length-append}
use Rattle.std.specs.Prelude.{position, filter, if◌then◌else◌}
use Rattle.std.specs.Option.{option_map_or}
use Rattle.std.specs.List.{slice_split, before_first, after_first, position_or_len, prefix_len, All}
use Rattle.std.proofs.lemmas.Bool.{lt-ltb, lt-leb, le-leb, cases_lt}
use Rattle.std.proofs.lemmas.Grind.{common_steps}
use Rattle.std.proofs.lemmas.List.{take_all}
use Rattle.std.proofs.lemmas.List.Splits.{slice_split-cons_yes, slice_split_none, slice_split_first}
use Rattle.std.proofs.lemmas.List.Sums.{fails_before_first}
use Rattle.nor_base.specs.Array.{is_filled}
use Rattle.nor_lines.specs.Lines.{is_blank}
use Rattle.nor_sheet.specs.Words.{split, word_on, cut_at_blank, at_most}

-- ---- where a text is cut

at_some : (b : Bool) (n k : ℕ) → Some k ≡ cond b (Some n) None → n ≡ k
at_some true n k e = cc
at_some false n k e = cc

-- the place that was found
pub place_is : (p : ℕ → Bool) (xs : List ℕ) (k : ℕ) → Some k ≡ position p xs → position_or_len p xs ≡ k
place_is p xs k e = at_some (nat_lt (position_or_len p xs) (length xs)) (position_or_len p xs) k e

-- none was
pub no_place : (p : ℕ → Bool) (xs : List ℕ) → None ≡ position p xs → length xs ≤ position_or_len p xs
no_place p xs e = elim (cases_lt (position_or_len p xs) (length xs)) [
  | inl below ↦
      let both : None ≡ Some (position_or_len p xs) =
      e ∙ ap (λ b. cond b (Some (position_or_len p xs)) None) (lt-ltb (position_or_len p xs) (length xs) below) in
      cc
  | inr past ↦ past
]

-- ---- the parts between separators that aren't empty

module _ (p : ℕ → Bool) where
  separator_first : (c : ℕ) (text : List ℕ) → p c ≡ true → filter is_filled (slice_split p (c ∷ text)) ≡ filter is_filled (slice_split p text)
  separator_first c text e = ap (filter is_filled) (slice_split-cons_yes p c text e)

  skipped : (c : ℕ) (text : List ℕ) → p c ≡ true → drop (prefix_len p (c ∷ text)) (c ∷ text) ≡ drop (prefix_len p text) text
  skipped c text e = grind (arith, common_steps)

  kept : (c : ℕ) (text : List ℕ) → p c ≡ false → drop (prefix_len p (c ∷ text)) (c ∷ text) ≡ c ∷ text
  kept c text e = grind (arith, common_steps)

  filled : (c : ℕ) (text : List ℕ) → p c ≡ false → is_filled (before_first p (c ∷ text)) ≡ true
  filled c text e =
      let one : 1 + prefix_len (λ x. not (p x)) text ≡ suc (prefix_len (λ x. not (p x)) text) = omega arith in
      rw (e, one) refl

  part_first : (c : ℕ) (text : List ℕ) → p c ≡ false
      → filter is_filled (slice_split p (c ∷ text)) ≡ before_first p (c ∷ text) ∷ filter is_filled (slice_split p (after_first p (c ∷ text)))
  part_first c text e = elim (cases_lt (position_or_len p (c ∷ text)) (length (c ∷ text))) [
    | inl below ↦
        ap (filter is_filled) (slice_split_first p (c ∷ text) 0 below)
        ∙ ap (λ b. cond b (before_first p (c ∷ text) ∷ filter is_filled (slice_split p (after_first p (c ∷ text)))) (filter is_filled (slice_split p (after_first p (c ∷ text))))) (filled c text e)
    | inr past ↦
        let each : All (λ x. p x ≡ false) (c ∷ text) = λ k d l. fails_before_first p (c ∷ text) k d (omega (arith, past, l)) in
        let whole : before_first p (c ∷ text) ≡ c ∷ text = take_all (position_or_len p (c ∷ text)) (c ∷ text) past in
        let rest : after_first p (c ∷ text) ≡ [] = grind (arith, common_steps, past) in
        ap (filter is_filled) (slice_split_none p (c ∷ text) each)
        ∙ ap (λ w. w ∷ []) (sym whole)
        ∙ ap (λ r. before_first p (c ∷ text) ∷ filter is_filled (slice_split p r)) (sym rest)
  ]

-- a text's words are the first, and those after it
abbrev Steps : List ℕ → Type 0
Steps text = split text ≡ option_map_or (λ pair. pair.0 ∷ split pair.1) (word_on text) []

step_by : (c : ℕ) (text : List ℕ) (b : Bool) → is_blank c ≡ b → Steps text → Steps (c ∷ text)
step_by c text true e steps =
    separator_first is_blank c text e ∙ steps ∙ ap (λ t. option_map_or (λ pair. pair.0 ∷ split pair.1) (cut_at_blank t) []) (sym (skipped is_blank c text e))
step_by c text false e steps =
    part_first is_blank c text e ∙ ap (λ t. option_map_or (λ pair. pair.0 ∷ split pair.1) (cut_at_blank t) []) (sym (kept is_blank c text e))

pub split_step : (text : List ℕ) → split text ≡ option_map_or (λ pair. pair.0 ∷ split pair.1) (word_on text) []
split_step [] = refl
split_step (c ∷ text) = step_by c text (is_blank c) refl (split_step text)

-- ---- the words so far, and those of the rest

-- one word more
pub word_more : (words all : List (List ℕ)) (text : List ℕ) (pair : List ℕ × List ℕ) → words ++ split text ≡ all → Some pair ≡ word_on text → (words ++ pair.0 ∷ []) ++ split pair.1 ≡ all
word_more words all text pair so here =
    append_assoc words (pair.0 ∷ []) (split pair.1)
    ∙ ap (λ o. words ++ option_map_or (λ pair. pair.0 ∷ split pair.1) o []) here
    ∙ ap (λ l. words ++ l) (sym (split_step text)) ∙ so

-- the last one was read
pub no_more : (words all : List (List ℕ)) (text : List ℕ) → words ++ split text ≡ all → None ≡ word_on text → words ≡ all
no_more words all text so none =
    sym (append-nil words) ∙ ap (λ o. words ++ option_map_or (λ pair. pair.0 ∷ split pair.1) o []) none ∙ ap (λ l. words ++ l) (sym (split_step text)) ∙ so

-- a word past five
pub too_many : (words all : List (List ℕ)) (text : List ℕ) (pair : List ℕ × List ℕ) → words ++ split text ≡ all → Some pair ≡ word_on text → 5 ≤ length words → None ≡ at_most 5 all
too_many words all text pair so here full =
    let whole = ap length (word_more words all text pair so here) in
    let many : 5 < length all = omega (arith, whole, full, length-append (words ++ pair.0 ∷ []) (split pair.1), length-append words (pair.0 ∷ [])) in
    ap (λ b. if b then Some all else None) (sym (lt-leb _ _ many))

pub few_enough : (words all : List (List ℕ)) → words ≡ all → length words ≤ 5 → Some words ≡ at_most 5 all
few_enough words all same few = ap (λ b. if b then Some words else None) (sym (le-leb (length words) 5 few)) ∙ ap (at_most 5) same
