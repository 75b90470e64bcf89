-- A listing, line after line.
use Rattle.std.proofs.Common.{◌≡◌, ℕ, ◌+◌, ◌%◌, ◌^◌, ◌<◌, Bool, List, [], ◌∷◌, ◌++◌, length, drop, get_or, refl, sym, ◌∙◌, ap, arith, append_assoc}
use Rattle.std.specs.Prelude.{decimal}
use Rattle.std.specs.List.{AllByRecursion}
use Rattle.std.proofs.lemmas.Fmt.{decimal_by_steps}
use Rattle.std.proofs.lemmas.List.{append_cancel_left}
use Rattle.nor_base.specs.declared.step.Step.{Step}
use Rattle.nor_base.specs.Parameters.{Parameters}
use Rattle.nor_base.specs.Script.{end_line}
use Rattle.nor_laws.specs.Spelling.{SameSpelling}
use Rattle.nor_listing.specs.Law.{IsListable, AreListable}
use Rattle.nor_listing.specs.Listing.{words, mode_past, line, lines_from, chip_line, listing}
use Rattle.nor_listing.proofs.ViewLemmas.{view, apart}

-- a number begins with a digit, and the end line with a letter
abbrev BeginsLow : List ℕ → Type 0
BeginsLow text = get_or text 0 0x65 < 58

low_append : (front rest : List ℕ) → BeginsLow front → BeginsLow (front ++ rest)
low_append [] rest low = absurd (omega (arith, low))
low_append (c ∷ front) rest low = low

decimal_low : (n : ℕ) → n < 2 ^ 64 → BeginsLow (decimal n)
decimal_low n fits =
    decimal_by_steps (λ k ds. BeginsLow ds) (λ k small. omega arith) (λ k ds big before. low_append ds ((48 + k % 10) ∷ []) before) n fits

pub line_is : (m : Parameters) (n : ℕ) (mode4 : Bool) (x : Step) (rest : List ℕ) → line m n mode4 x ++ rest ≡ decimal n ++ 0x20 ∷ (words m mode4 x ++ 0x0A ∷ rest)
unfolding line
line_is m n mode4 x rest =
    append_assoc (decimal n ++ 0x20 ∷ words m mode4 x) (0x0A ∷ []) rest ∙ append_assoc (decimal n) (0x20 ∷ words m mode4 x) (0x0A ∷ rest)

pub end_is_no_line : (m : Parameters) (n k : ℕ) (mode4 : Bool) (x : Step) (rest : List ℕ) → n < 2 ^ 64 → end_line k ≡ line m n mode4 x ++ rest → ⊥
unfolding end_line
end_is_no_line m n k mode4 x rest fits h =
    let low : BeginsLow (decimal n ++ 0x20 ∷ (words m mode4 x ++ 0x0A ∷ rest)) = low_append (decimal n) _ (decimal_low n fits) in
    let first : 0x65 ≡ get_or (decimal n ++ 0x20 ∷ (words m mode4 x ++ 0x0A ∷ rest)) 0 0x65 = ap (λ l. get_or l 0 0x65) (h ∙ line_is m n mode4 x rest) in
    omega (arith, low, first)

-- nor is the beginning of a text that begins with an end line
pub end_then_no_line : (m : Parameters) (n k : ℕ) (mode4 : Bool) (x : Step) (more rest : List ℕ) → n < 2 ^ 64 → end_line k ++ more ≡ line m n mode4 x ++ rest → ⊥
unfolding end_line
end_then_no_line m n k mode4 x more rest fits h =
    let low : BeginsLow (decimal n ++ 0x20 ∷ (words m mode4 x ++ 0x0A ∷ rest)) = low_append (decimal n) _ (decimal_low n fits) in
    let first : 0x65 ≡ get_or (decimal n ++ 0x20 ∷ (words m mode4 x ++ 0x0A ∷ rest)) 0 0x65 = ap (λ l. get_or l 0 0x65) (h ∙ line_is m n mode4 x rest) in
    omega (arith, low, first)

module _ (law : SameSpelling) (m : Parameters) where
  lines_apart : (xs ys : List Step) (n : ℕ) (mode4 : Bool) → n + length xs < 2 ^ 64 → n + length ys < 2 ^ 64 → AllByRecursion IsListable xs → AllByRecursion IsListable ys
      → lines_from m n mode4 xs ++ end_line (n + length xs) ≡ lines_from m n mode4 ys ++ end_line (n + length ys) → xs ≡ ys
  unfolding lines_from
  lines_apart [] [] n mode4 few fewer each every h = refl
  lines_apart [] (y ∷ ys) n mode4 few fewer each every h =
      let after = lines_from m (n + 1) (mode_past m mode4 y) ys in
      absurd (end_is_no_line m n (n + 0) mode4 y (after ++ end_line (n + length (y ∷ ys))) (omega (arith, few)) (h ∙ append_assoc (line m n mode4 y) after _))
  lines_apart (x ∷ xs) [] n mode4 few fewer each every h =
      let after = lines_from m (n + 1) (mode_past m mode4 x) xs in
      absurd (end_is_no_line m n (n + 0) mode4 x (after ++ end_line (n + length (x ∷ xs))) (omega (arith, fewer)) (sym h ∙ append_assoc (line m n mode4 x) after _))
  lines_apart (x ∷ xs) (y ∷ ys) n mode4 few fewer each every h =
      let p = lines_from m (n + 1) (mode_past m mode4 x) xs ++ end_line (n + length (x ∷ xs)) in
      let q = lines_from m (n + 1) (mode_past m mode4 y) ys ++ end_line (n + length (y ∷ ys)) in
      let lines : line m n mode4 x ++ p ≡ line m n mode4 y ++ q =
      sym (append_assoc (line m n mode4 x) (lines_from m (n + 1) (mode_past m mode4 x) xs) _) ∙ h
      ∙ append_assoc (line m n mode4 y) (lines_from m (n + 1) (mode_past m mode4 y) ys) _ in
      let behind : words m mode4 x ++ 0x0A ∷ p ≡ words m mode4 y ++ 0x0A ∷ q =
      ap (drop 1) (append_cancel_left (decimal n) (0x20 ∷ (words m mode4 x ++ 0x0A ∷ p)) (0x20 ∷ (words m mode4 y ++ 0x0A ∷ q))
      (sym (line_is m n mode4 x p) ∙ lines ∙ line_is m n mode4 y q)) in
      let here = apart m mode4 law x y each.0 every.0 p q behind (view m mode4 x) (view m mode4 y) in
      let count : n + length (x ∷ xs) ≡ (n + 1) + length xs = omega arith in
      let counts : n + length (y ∷ ys) ≡ (n + 1) + length ys = omega arith in
      let mode : mode_past m mode4 y ≡ mode_past m mode4 x = ap (mode_past m mode4) (sym here.is) in
      let later = lines_apart xs ys (n + 1) (mode_past m mode4 x) (omega (arith, few)) (omega (arith, fewer)) each.1 every.1
      (ap (λ k. lines_from m (n + 1) (mode_past m mode4 x) xs ++ end_line k) (sym count) ∙ here.rest
      ∙ ap (λ k. lines_from m (n + 1) k ys ++ end_line (n + length (y ∷ ys))) mode ∙ ap (λ k. lines_from m (n + 1) (mode_past m mode4 x) ys ++ end_line k) counts) in
      ap (λ step. step ∷ xs) here.is ∙ ap (λ steps. y ∷ steps) later

  pub one_list : (mode4 : Bool) (xs ys : List Step) → AreListable xs → AreListable ys → listing m mode4 xs ≡ listing m mode4 ys → xs ≡ ys
  unfolding listing
  one_list mode4 xs ys first second h =
      let few = first.few in
      let fewer = second.few in
      let count : length xs ≡ 0 + length xs = omega arith in
      let counts : length ys ≡ 0 + length ys = omega arith in
      lines_apart xs ys 0 mode4 (omega (arith, few)) (omega (arith, fewer)) first.each second.each
      (ap (λ k. lines_from m 0 mode4 xs ++ end_line k) (sym count)
      ∙ append_cancel_left (chip_line m mode4) (lines_from m 0 mode4 xs ++ end_line (length xs)) (lines_from m 0 mode4 ys ++ end_line (length ys)) h
      ∙ ap (λ k. lines_from m 0 mode4 ys ++ end_line k) counts)
