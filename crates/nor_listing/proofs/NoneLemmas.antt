-- Words that are those of no step.
use Rattle.std.proofs.Common.{◌≡◌, ℕ, Bool, true, false, List, ◌++◌, drop, Option, Some, None, Result, Ok, Err, IfOk, inl, inr, sym, ◌∙◌, ap}
use Rattle.std.specs.Prelude.{codes, decimal, MatchOption}
use Rattle.std.proofs.lemmas.List.{append_cancel_left}
use Rattle.nor_base.specs.declared.step.Step.{Step}
use Rattle.nor_base.specs.Parameters.{Parameters}
use Rattle.nor_base.specs.Script.{closed}
use Rattle.nor_base.specs.Step.{is_step}
use Rattle.nor_laws.specs.Spelling.{OneSpelling}
use Rattle.nor_listing.specs.Listing.{words}
use Rattle.nor_listing.specs.Parts.{IsTold}
use Rattle.nor_listing.specs.Told.{Says, SaysNone, SaysNoneOf, SaysLine, SaysNoLine, numbered}
use Rattle.nor_listing.specs.declared.reader.Read.{Read}
use Rattle.nor_listing.proofs.ReadLemmas.{says_line}
use Rattle.nor_listing.proofs.FindLemmas.{finds, some_width}

same_step : (s x : Step) → Some s ≡ Some x → s ≡ x
same_step s x h = cc

module _ (law : OneSpelling) (m : Parameters) (mode4 : Bool) (width : ℕ) (text : List ℕ) where
  pub none_found : (found : Option Step) → found ≡ None → IsTold m width text found → SaysNoneOf m mode4 text width
  none_found found none says = λ x listed wide is. let both : None ≡ Some x = sym none ∙ finds law m mode4 width x listed wide text found is says in cc

  module _ (found : Option Step) (step : Step) (is : found ≡ Some step) (says : IsTold m width text found) where
    pub not_listable : is_step step ≡ false → SaysNoneOf m mode4 text width
    not_listable not = λ x listed wide words_are.
        let same = same_step step x (sym is ∙ finds law m mode4 width x listed wide text found words_are says) in
        let both : false ≡ true = sym not ∙ ap is_step same ∙ listed.is_one.passes in cc

    pub other_words : (told : List ℕ) → told ≡ closed (words m mode4 step) → (told ≡ closed text → ⊥) → SaysNoneOf m mode4 text width
    other_words told whole other = λ x listed wide words_are.
        let same = same_step step x (sym is ∙ finds law m mode4 width x listed wide text found words_are says) in
        other (whole ∙ ap (λ s. closed (words m mode4 s)) same ∙ ap closed (sym words_are))

pub neither : (m : Parameters) (mode4 : Bool) (text : List ℕ) → SaysNoneOf m mode4 text 3 → SaysNoneOf m mode4 text 4 → SaysNone m mode4 text
neither m mode4 text three four = λ x listed is. elim (some_width m mode4 x) [ inl wide ↦ three x listed wide is | inr wide ↦ four x listed wide is ]

pub both_widths : {T E : Type 0} (m : Parameters) (mode4 : Bool) (text : List ℕ) (Q : T → Type 0) (r : Result (Option T) E) → SaysNoneOf m mode4 text 3
    → IfOk r (λ found. MatchOption found (SaysNoneOf m mode4 text 4) Q) → IfOk r (λ found. MatchOption found (SaysNone m mode4 text) Q)
both_widths m mode4 text Q (Ok None) three four = neither m mode4 text three four
both_widths m mode4 text Q (Ok (Some x)) three four = four
both_widths m mode4 text Q (Err e) three four = tt

-- a line, by its number
module _ (m : Parameters) (n : ℕ) (mode4 : Bool) (line text : List ℕ) (is : line ≡ numbered n text) where
  no_line : SaysNone m mode4 text → SaysNoLine m n mode4 line
  no_line none = λ x listed told.
      none x listed (ap (drop 1) (append_cancel_left (decimal n) (codes " " ++ text) (codes " " ++ words m mode4 x) (sym is ∙ told)))

  pub with_number : {E : Type 0} (r : Result (Option Read) E) → IfOk r (λ found. MatchOption found (SaysNone m mode4 text) (λ read. Says m mode4 text read.step read.after))
      → IfOk r (λ found. MatchOption found (SaysNoLine m n mode4 line) (SaysLine m n mode4 line))
  with_number (Ok None) none = no_line none
  with_number (Ok (Some read)) says = says_line m n mode4 line text is read says
  with_number (Err e) any = tt
