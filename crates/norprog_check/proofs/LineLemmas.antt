-- The parts of a verdict's line.
use Rattle.std.proofs.Common.{◌≡◌, ℕ, Bool, true, List, [], ◌∷◌, ◌++◌, Option, Some, Result, refl, sym, ◌∙◌, ap, subst, append_assoc, append-nil}
use Rattle.std.specs.Prelude.{codes, decimal}
use Rattle.std.specs.Io.KnownBytes.{Appends}
use Rattle.nor_base.specs.declared.wrong.Wrong.{Wrong}
use Rattle.nor_base.specs.Device.{Cuts, Writes}
use Rattle.nor_base.proofs.DeviceLaws.{Cuts-more, Cuts-then, Writes-then}
use Rattle.nor_check.specs.declared.verdict.Verdict.TheVariants.{No}
use Rattle.nor_check.specs.declared.verdict.Why.TheVariants as why
use Rattle.nor_script.specs.Hexadecimal.{hex_number}
use Rattle.norprog_common.specs.Wrongs.{wrong_number}
use Rattle.norprog_check.specs.declared.finding.Finding.{Finding}
use Rattle.norprog_check.specs.declared.finding.ShowingChip.{ShowingChip}
use Rattle.norprog_check.specs.Line.{verdict_text, chip_text, keep_text, limit_beside, number_text, shown_text}

abbrev pub no_parts : List ℕ → List ℕ → List ℕ → List ℕ
no_parts step word tail = codes "no at " ++ (step ++ (word ++ (tail ++ codes "\n")))

pub wrong_parts : (step : ℕ) (cause : Wrong) (a b : List ℕ) → a ≡ decimal step → b ≡ decimal (wrong_number cause)
    → no_parts a (codes " wrong ") b ≡ verdict_text (No step (why.Wrong cause))
unfolding verdict_text
wrong_parts step cause a b is_a is_b =
    let number = decimal (wrong_number cause) in
    ap (λ x. no_parts x (codes " wrong ") b) is_a ∙ ap (λ x. no_parts (decimal step) (codes " wrong ") x) is_b
    ∙ ap (λ rest. codes "no at " ++ rest) (sym (append_assoc (decimal step) (codes " wrong " ++ number) (0x0A ∷ [])))

pub differs_parts : (step address : ℕ) (a b : List ℕ) → a ≡ decimal step → b ≡ hex_number address
    → no_parts a (codes " differs ") b ≡ verdict_text (No step (why.Differs address))
unfolding verdict_text
differs_parts step address a b is_a is_b =
    let digits = hex_number address in
    ap (λ x. no_parts x (codes " differs ") b) is_a ∙ ap (λ x. no_parts (decimal step) (codes " differs ") x) is_b
    ∙ ap (λ rest. codes "no at " ++ rest) (sym (append_assoc (decimal step) (codes " differs " ++ digits) (0x0A ∷ [])))

-- the parts of a chip's line
abbrev pub head_parts : List ℕ → List ℕ → List ℕ
head_parts digits keep = codes "shown by norprog run --each-busy " ++ (digits ++ (keep ++ []))

abbrev pub page_part : Option ℕ → List ℕ
page_part page = number_text (codes " --page ") page

abbrev pub limit_part : Option ℕ → List ℕ
limit_part limit = number_text (codes " --limit ") limit

joined : (a b c d e f : List ℕ) → (a ++ (b ++ (c ++ []))) ++ (d ++ (e ++ f)) ≡ (a ++ (b ++ (c ++ (d ++ e)))) ++ f
joined a b c d e f = simp (append_assoc, append-nil)

module _ (chip : ShowingChip) (digits keep : List ℕ) (is_digits : digits ≡ decimal chip.each_busy) (is_keep : keep ≡ keep_text chip.keep) where
  parts_of : (page limit : Option ℕ) → page ≡ chip.page → limit ≡ limit_beside chip.each_busy
      → head_parts digits keep ++ (page_part page ++ (limit_part limit ++ codes "\n")) ≡ chip_text chip
  unfolding chip_text
  parts_of page limit is_page is_limit =
      let tail = page_part page ++ (limit_part limit ++ codes "\n") in
      let words = codes "shown by norprog run --each-busy " in
      ap (λ d. head_parts d keep ++ tail) is_digits ∙ ap (λ k. head_parts (decimal chip.each_busy) k ++ tail) is_keep
      ∙ ap (λ p. head_parts (decimal chip.each_busy) (keep_text chip.keep) ++ (page_part p ++ (limit_part limit ++ codes "\n"))) is_page
      ∙ ap (λ l. head_parts (decimal chip.each_busy) (keep_text chip.keep) ++ (page_part chip.page ++ (limit_part l ++ codes "\n"))) is_limit
      ∙ joined words (decimal chip.each_busy) (keep_text chip.keep) (page_part chip.page) (limit_part (limit_beside chip.each_busy)) (codes "\n")

  -- a proper prefix of the first parts, of the page's, of the limit's
  pub cut_head : (a b : Option (List ℕ)) → Cuts a b (head_parts digits keep) → Cuts a b (chip_text chip)
  cut_head a b cut = subst (Cuts a b) (parts_of chip.page (limit_beside chip.each_busy) refl refl) (Cuts-more a b (head_parts digits keep) _ cut)

  pub cut_page : (a b c : Option (List ℕ)) (page : Option ℕ) → page ≡ chip.page → Appends a b (head_parts digits keep) → Cuts b c (page_part page)
      → Cuts a c (chip_text chip)
  cut_page a b c page is head cut =
      subst (Cuts a c) (parts_of page (limit_beside chip.each_busy) is refl) (Cuts-then a b c (head_parts digits keep) _ head (Cuts-more b c (page_part page) _ cut))

  pub cut_limit : (a b c d : Option (List ℕ)) (page limit : Option ℕ) → page ≡ chip.page → limit ≡ limit_beside chip.each_busy
      → Appends a b (head_parts digits keep) → Appends b c (page_part page) → Cuts c d (limit_part limit) → Cuts a d (chip_text chip)
  cut_limit a b c d page limit is so head paged cut =
      subst (Cuts a d) (parts_of page limit is so)
      (Cuts-then a b d (head_parts digits keep) _ head (Cuts-then b c d (page_part page) _ paged (Cuts-more c d (limit_part limit) _ cut)))

  -- all of them, and then the end of the line
  pub all_parts : {T F : Type 0} (a b c d e : Option (List ℕ)) (r : Result T F) (page limit : Option ℕ) → page ≡ chip.page → limit ≡ limit_beside chip.each_busy
      → Appends a b (head_parts digits keep) → Appends b c (page_part page) → Appends c d (limit_part limit) → Writes d e r (codes "\n") → Writes a e r (chip_text chip)
  all_parts a b c d e r page limit is so head paged limited last =
      subst (Writes a e r) (parts_of page limit is so)
      (Writes-then a b e r (head_parts digits keep) _ head (Writes-then b c e r (page_part page) _ paged (Writes-then c d e r (limit_part limit) _ limited last)))

-- the line of a chip is there where it is asked for
pub shown_parts : (found : Finding) (witness : Bool) (chip : ShowingChip) → found.chip ≡ Some chip → witness ≡ true → chip_text chip ≡ shown_text witness found.chip
shown_parts found witness chip is on = ap (λ (o : Option ShowingChip). shown_text true o) (sym is) ∙ ap (λ b. shown_text b found.chip) (sym on)
