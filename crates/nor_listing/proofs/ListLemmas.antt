-- Lines of steps, one after another.
use Rattle.std.proofs.Common.{◌≡◌, ℕ, ◌+◌, ◌<◌, ◌≤◌, Bool, List, [], ◌++◌, length, drop, get_or, Option, Result, refl, sym, ◌∙◌, ap, subst, append_assoc, append-nil}
use Rattle.std.specs.Io.KnownBytes.{Appends}
use Rattle.std.proofs.lemmas.List.{drop_more, drop_all}
use Rattle.nor_base.specs.declared.step.Step.{Step}
use Rattle.nor_base.specs.declared.device.Failed.{Failed}
use Rattle.nor_base.specs.Script.{end_line}
use Rattle.nor_base.specs.Device.{Cuts, Writes}
use Rattle.nor_base.specs.Parameters.{Parameters}
use Rattle.nor_base.proofs.DeviceLaws.{Appends-none, Appends-append, Cuts-then, Cuts-more, Writes-then}
use Rattle.nor_listing.specs.Listing.{line, lines_from, mode_past, chip_line, unended_listing, listing}

-- the lines of the first n steps were put, after which the mode is this
pub record AreListed (m : Parameters) (first : Bool) (steps : List Step) (before after : Option (List ℕ)) (n : ℕ) (mode4 : Bool) : Type 0 where
  pub text : List ℕ
  pub put : Appends before after text
  pub rest : text ++ lines_from m n mode4 (drop n steps) ≡ lines_from m 0 first steps

module _ (m : Parameters) (first : Bool) (steps : List Step) where
  pub none_listed : (a : Option (List ℕ)) → AreListed m first steps a a 0 first
  none_listed a = record { text = []; put = Appends-none a; rest = refl }

  one_line : (n : ℕ) (mode4 : Bool) (x : Step) → x ≡ get_or steps n x → n < length steps
      → line m n mode4 x ++ lines_from m (n + 1) (mode_past m mode4 x) (drop (n + 1) steps) ≡ lines_from m n mode4 (drop n steps)
  unfolding lines_from
  one_line n mode4 x is inside =
      ap (λ y. line m n mode4 y ++ lines_from m (n + 1) (mode_past m mode4 y) (drop (n + 1) steps)) is ∙ sym (ap (lines_from m n mode4) (drop_more steps n x inside))

  pub one_more : (a b c : Option (List ℕ)) (n : ℕ) (mode4 after : Bool) (x : Step) → AreListed m first steps a b n mode4 → x ≡ get_or steps n x → n < length steps
      → Appends b c (line m n mode4 x) → after ≡ mode_past m mode4 x → AreListed m first steps a c (n + 1) after
  one_more a b c n mode4 after x listed is inside put mode = record {
    text = listed.text ++ line m n mode4 x;
    put = Appends-append a b c listed.text (line m n mode4 x) listed.put put;
    rest = append_assoc listed.text (line m n mode4 x) (lines_from m (n + 1) after (drop (n + 1) steps))
        ∙ ap (λ k. listed.text ++ (line m n mode4 x ++ lines_from m (n + 1) k (drop (n + 1) steps))) mode
        ∙ ap (λ l. listed.text ++ l) (one_line n mode4 x is inside) ∙ listed.rest;
  }

  pub one_cut : (a b c : Option (List ℕ)) (n : ℕ) (mode4 : Bool) (x : Step) → AreListed m first steps a b n mode4 → x ≡ get_or steps n x → n < length steps
      → Cuts b c (line m n mode4 x) → Cuts a c (lines_from m 0 first steps)
  one_cut a b c n mode4 x listed is inside cut =
      let later = lines_from m (n + 1) (mode_past m mode4 x) (drop (n + 1) steps) in
      subst (Cuts a c) (ap (λ l. listed.text ++ l) (one_line n mode4 x is inside) ∙ listed.rest)
      (Cuts-then a b c listed.text (line m n mode4 x ++ later) listed.put (Cuts-more b c (line m n mode4 x) later cut))

  pub all_listed : (a b : Option (List ℕ)) (n : ℕ) (mode4 : Bool) → AreListed m first steps a b n mode4 → length steps ≤ n → Appends a b (lines_from m 0 first steps)
  unfolding lines_from
  all_listed a b n mode4 listed past =
      subst (Appends a b) (sym (append-nil listed.text) ∙ ap (λ l. listed.text ++ lines_from m n mode4 l) (sym (drop_all n steps past)) ∙ listed.rest) listed.put

-- the first line, the lines of the steps
module _ (m : Parameters) (first mode4 : Bool) (steps : List Step) (same : mode4 ≡ first) where
  unended : chip_line m mode4 ++ lines_from m 0 mode4 steps ≡ unended_listing m first steps
  unfolding unended_listing
  unended = ap (λ k. chip_line m k ++ lines_from m 0 k steps) same

  pub first_cut : (a b : Option (List ℕ)) → Cuts a b (chip_line m mode4) → Cuts a b (unended_listing m first steps)
  first_cut a b cut = subst (Cuts a b) unended (Cuts-more a b (chip_line m mode4) (lines_from m 0 mode4 steps) cut)

  pub lines_put : {T : Type 0} (a b c : Option (List ℕ)) (r : Result T Failed) → Appends a b (chip_line m mode4)
      → Writes b c r (lines_from m 0 mode4 steps) → Writes a c r (unended_listing m first steps)
  lines_put a b c r front lines = subst (Writes a c r) unended (Writes-then a b c r (chip_line m mode4) (lines_from m 0 mode4 steps) front lines)

-- and the end line
module _ (m : Parameters) (first : Bool) (steps : List Step) where
  ended : unended_listing m first steps ++ end_line (length steps) ≡ listing m first steps
  unfolding unended_listing listing
  ended = append_assoc (chip_line m first) (lines_from m 0 first steps) (end_line (length steps))

  pub unended_cut : (a b : Option (List ℕ)) → Cuts a b (unended_listing m first steps) → Cuts a b (listing m first steps)
  unended_cut a b cut = subst (Cuts a b) ended (Cuts-more a b (unended_listing m first steps) (end_line (length steps)) cut)

  pub all_put : {T : Type 0} (a b c : Option (List ℕ)) (r : Result T Failed) → Appends a b (unended_listing m first steps)
      → Writes b c r (end_line (length steps)) → Writes a c r (listing m first steps)
  all_put a b c r lines end = subst (Writes a c r) ended (Writes-then a b c r (unended_listing m first steps) (end_line (length steps)) lines end)
