-- A listing has no fault.
use Rattle.std.proofs.Common.{◌≡◌, ℕ, ◌+◌, ◌^◌, ◌<◌, Bool, List, [], ◌∷◌, ◌++◌, length, drop, inl, inr, sym, ◌∙◌, ap, subst, arith, append_assoc, append-nil}
use Rattle.std.specs.Prelude.{decimal}
use Rattle.std.specs.List.{AllByRecursion}
use Rattle.std.proofs.lemmas.List.{append_cancel_left}
use Rattle.nor_base.specs.declared.step.Step.{Step}
use Rattle.nor_base.specs.Parameters.{Parameters}
use Rattle.nor_base.specs.Script.{end_line}
use Rattle.nor_laws.specs.Spelling.{SameSpelling}
use Rattle.nor_listing.specs.Law.{IsListable}
use Rattle.nor_listing.specs.Listing.{words, mode_past, line, lines_from, chip_line, unended_listing, listing}
use Rattle.nor_listing.specs.Read.{IsListingOf, IsStrange, HasBadLine, GoesOn, Refuses, mode_through}
use Rattle.nor_listing.specs.declared.fault.ListFault.TheVariants.{BadLine}
use Rattle.nor_listing.proofs.LawLemmas.{line_is, end_is_no_line, end_then_no_line}
use Rattle.nor_listing.proofs.ViewLemmas.{view, apart}

module _ (law : SameSpelling) (m : Parameters) where
  -- two lines in front are alike, and so is what follows
  record SameLine (n : ℕ) (mode4 : Bool) (x y : Step) (p q : List ℕ) : Type 0 where
    is : x ≡ y
    rest : p ≡ q

  same_line : (n : ℕ) (mode4 : Bool) (x y : Step) (p q : List ℕ) → IsListable x → IsListable y → line m n mode4 x ++ p ≡ line m n mode4 y ++ q → SameLine n mode4 x y p q
  same_line n mode4 x y p q first second h =
      let behind : words m mode4 x ++ 0x0A ∷ p ≡ words m mode4 y ++ 0x0A ∷ q =
      ap (drop 1) (append_cancel_left (decimal n) (0x20 ∷ (words m mode4 x ++ 0x0A ∷ p)) (0x20 ∷ (words m mode4 y ++ 0x0A ∷ q))
      (sym (line_is m n mode4 x p) ∙ h ∙ line_is m n mode4 y q)) in
      let here = apart m mode4 law x y first second p q behind (view m mode4 x) (view m mode4 y) in
      record { is = here.is; rest = here.rest }

  -- the lines of some steps, and then a text; and the lines of all steps with their end line
  strange : (above steps : List Step) (n : ℕ) (mode4 : Bool) (rest : List ℕ) → n + length above < 2 ^ 64 → n + length steps < 2 ^ 64
      → AllByRecursion IsListable above → AllByRecursion IsListable steps → lines_from m n mode4 above ++ rest ≡ lines_from m n mode4 steps ++ end_line (n + length steps)
      → IsStrange m (n + length above) (mode_through m mode4 above) rest → ⊥
  unfolding lines_from
  strange [] [] n mode4 rest few fewer each every h is = is.no_end [] (h ∙ sym (append-nil (end_line (n + 0))))
  strange [] (y ∷ ys) n mode4 rest few fewer each every h is =
      let after = lines_from m (n + 1) (mode_past m mode4 y) ys in
      let here : n + 0 ≡ n = omega arith in
      is.no_step y (after ++ end_line (n + length (y ∷ ys))) every.0
      (h ∙ append_assoc (line m n mode4 y) after (end_line (n + length (y ∷ ys))) ∙ ap (λ k. line m k mode4 y ++ (after ++ end_line (n + length (y ∷ ys)))) (sym here))
  strange (x ∷ xs) [] n mode4 rest few fewer each every h is =
      let after = lines_from m (n + 1) (mode_past m mode4 x) xs in
      end_is_no_line m n (n + 0) mode4 x (after ++ rest) (omega (arith, few)) (sym h ∙ append_assoc (line m n mode4 x) after rest)
  strange (x ∷ xs) (y ∷ ys) n mode4 rest few fewer each every h is =
      let p = lines_from m (n + 1) (mode_past m mode4 x) xs ++ rest in
      let q = lines_from m (n + 1) (mode_past m mode4 y) ys ++ end_line (n + length (y ∷ ys)) in
      let same = same_line n mode4 x y p q each.0 every.0
      (sym (append_assoc (line m n mode4 x) (lines_from m (n + 1) (mode_past m mode4 x) xs) rest) ∙ h
      ∙ append_assoc (line m n mode4 y) (lines_from m (n + 1) (mode_past m mode4 y) ys) (end_line (n + length (y ∷ ys)))) in
      let count : n + length (x ∷ xs) ≡ (n + 1) + length xs = omega arith in
      let counts : n + length (y ∷ ys) ≡ (n + 1) + length ys = omega arith in
      let mode : mode_past m mode4 y ≡ mode_past m mode4 x = ap (mode_past m mode4) (sym same.is) in
      strange xs ys (n + 1) (mode_past m mode4 x) rest (omega (arith, few)) (omega (arith, fewer)) each.1 every.1
      (same.rest ∙ ap (λ k. lines_from m (n + 1) k ys ++ end_line (n + length (y ∷ ys))) mode ∙ ap (λ k. lines_from m (n + 1) (mode_past m mode4 x) ys ++ end_line k) counts)
      (subst (λ k. IsStrange m k (mode_through m (mode_past m mode4 x) xs) rest) count is)

  -- nothing follows the listing of steps
  longer : (xs ys : List Step) (n : ℕ) (mode4 : Bool) (byte : ℕ) (more : List ℕ) → n + length xs < 2 ^ 64 → n + length ys < 2 ^ 64
      → AllByRecursion IsListable xs → AllByRecursion IsListable ys
      → lines_from m n mode4 xs ++ (end_line (n + length xs) ++ byte ∷ more) ≡ lines_from m n mode4 ys ++ end_line (n + length ys) → ⊥
  unfolding lines_from
  longer [] [] n mode4 byte more few fewer each every h =
      let none : byte ∷ more ≡ [] = append_cancel_left (end_line (n + 0)) (byte ∷ more) [] (h ∙ sym (append-nil (end_line (n + 0)))) in
      let wrong : ⊥ = cc in wrong
  longer [] (y ∷ ys) n mode4 byte more few fewer each every h =
      let after = lines_from m (n + 1) (mode_past m mode4 y) ys in
      end_then_no_line m n (n + 0) mode4 y (byte ∷ more) (after ++ end_line (n + length (y ∷ ys))) (omega (arith, few)) (h ∙ append_assoc (line m n mode4 y) after _)
  longer (x ∷ xs) [] n mode4 byte more few fewer each every h =
      let after = lines_from m (n + 1) (mode_past m mode4 x) xs in
      end_is_no_line m n (n + 0) mode4 x (after ++ (end_line (n + length (x ∷ xs)) ++ byte ∷ more)) (omega (arith, few)) (sym h ∙ append_assoc (line m n mode4 x) after _)
  longer (x ∷ xs) (y ∷ ys) n mode4 byte more few fewer each every h =
      let p = lines_from m (n + 1) (mode_past m mode4 x) xs ++ (end_line (n + length (x ∷ xs)) ++ byte ∷ more) in
      let q = lines_from m (n + 1) (mode_past m mode4 y) ys ++ end_line (n + length (y ∷ ys)) in
      let same = same_line n mode4 x y p q each.0 every.0
      (sym (append_assoc (line m n mode4 x) (lines_from m (n + 1) (mode_past m mode4 x) xs) _) ∙ h
      ∙ append_assoc (line m n mode4 y) (lines_from m (n + 1) (mode_past m mode4 y) ys) (end_line (n + length (y ∷ ys)))) in
      let count : n + length (x ∷ xs) ≡ (n + 1) + length xs = omega arith in
      let counts : n + length (y ∷ ys) ≡ (n + 1) + length ys = omega arith in
      let mode : mode_past m mode4 y ≡ mode_past m mode4 x = ap (mode_past m mode4) (sym same.is) in
      longer xs ys (n + 1) (mode_past m mode4 x) byte more (omega (arith, few)) (omega (arith, fewer)) each.1 every.1
      (ap (λ k. lines_from m (n + 1) (mode_past m mode4 x) xs ++ (end_line k ++ byte ∷ more)) (sym count) ∙ same.rest
      ∙ ap (λ k. lines_from m (n + 1) k ys ++ end_line (n + length (y ∷ ys))) mode ∙ ap (λ k. lines_from m (n + 1) (mode_past m mode4 x) ys ++ end_line k) counts)

  from_zero : (n : ℕ) → n ≡ 0 + n
  from_zero n = omega arith

  module _ (mode4 : Bool) (text : List ℕ) (steps : List Step) (is : IsListingOf m mode4 text steps) where
    whole : text ≡ chip_line m mode4 ++ (lines_from m 0 mode4 steps ++ end_line (0 + length steps))
    unfolding listing
    whole = is.spelled ∙ ap (λ k. chip_line m mode4 ++ (lines_from m 0 mode4 steps ++ end_line k)) (from_zero (length steps))

    no_bad_line : (n : ℕ) → HasBadLine m mode4 text n → ⊥
    unfolding unended_listing
    no_bad_line n bad =
        let few = bad.right.each.few in
        let fewer = is.each.few in
        strange bad.above steps 0 mode4 bad.rest (omega (arith, few)) (omega (arith, fewer)) bad.right.each.each is.each.each
        (append_cancel_left (chip_line m mode4) _ _ (sym (append_assoc (chip_line m mode4) (lines_from m 0 mode4 bad.above) bad.rest) ∙ sym bad.right.whole ∙ whole))
        (subst (λ k. IsStrange m k (mode_through m mode4 bad.above) bad.rest) (from_zero (length bad.above)) bad.strange)

    no_more : (n : ℕ) → GoesOn m mode4 text n → ⊥
    unfolding listing
    no_more n on =
        let few = on.each.few in
        let fewer = is.each.few in
        let lines = lines_from m 0 mode4 on.steps in
        let end = end_line (length on.steps) in
        longer on.steps steps 0 mode4 on.byte on.more (omega (arith, few)) (omega (arith, fewer)) on.each.each is.each.each
        (ap (λ k. lines ++ (end_line k ++ on.byte ∷ on.more)) (sym (from_zero (length on.steps)))
        ∙ append_cancel_left (chip_line m mode4) _ _
        (ap (λ l. chip_line m mode4 ++ l) (sym (append_assoc lines end (on.byte ∷ on.more))) ∙ sym (append_assoc (chip_line m mode4) (lines ++ end) (on.byte ∷ on.more))
        ∙ sym on.whole ∙ whole))

    pub no_fault : (n : ℕ) → Refuses m mode4 text (BadLine n) → ⊥
    no_fault n fault = elim fault [
      | inl chip ↦ chip.1 (lines_from m 0 mode4 steps ++ end_line (0 + length steps)) whole
      | inr later ↦ elim later [ inl bad ↦ no_bad_line n bad | inr on ↦ no_more n on ]
    ]
