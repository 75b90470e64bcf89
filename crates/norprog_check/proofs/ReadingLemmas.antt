-- What is known of the text of a script where the steps came, and of a checker that was fed with them.
use Rattle.std.proofs.Common.{◌≡◌, ℕ, List, [], ◌∷◌, ◌++◌, length, Ok, false, sym, ◌∙◌, ap, subst, append_assoc, append-nil}
use Rattle.nor_base.specs.declared.step.Step.{Step}
use Rattle.nor_base.specs.Device.{Ahead}
use Rattle.nor_check.specs.declared.verdict.Verdict.{Verdict}
use Rattle.nor_check.specs.declared.verdict.Verdict.TheVariants.{No}
use Rattle.nor_check.specs.declared.verdict.Witness.{Witness}
use Rattle.nor_check.specs.declared.verdict.Why.{Why}
use Rattle.nor_check.specs.Fed.{Fed, IsShown, to_come}
use Rattle.nor_script.specs.Stream.{Reading, reading, HasRead, Advances, HadText}
use Rattle.nor_script.proofs.TextLaws.{script_of}
use Rattle.norprog_check.specs.declared.readings.Said.{Said}
use Rattle.norprog_check.specs.Readings.{IsSaidOf}

-- of a target a checker that was fed with these steps says of more what the one before them says of all
abbrev pub IsFedWith : List ℕ → Fed → Fed → List Step → Type 0
IsFedWith want before now above = (more : List Step) → to_come now want more ≡ to_come before want (above ++ more)

pub fed_more : (want : List ℕ) (before now after : Fed) (above : List Step) (step shown : Step) → IsFedWith want before now above → shown ≡ step
    → ((more : List Step) → to_come after want more ≡ to_come now want (shown ∷ more)) → IsFedWith want before after (above ++ step ∷ [])
fed_more want before now after above step shown fed is next more =
    next more ∙ ap (λ s. to_come now want (s ∷ more)) is ∙ fed (step ∷ more) ∙ ap (to_come before want) (sym (append_assoc above (step ∷ []) more))

-- and what shows a no of more shows that of all
abbrev pub ShowsWith : List ℕ → Fed → Fed → List Step → Type 0
ShowsWith want before now above =
    (more : List Step) (v : Verdict) (w : Witness) → IsShown now want more v w → IsShown before want (above ++ more) v w

pub shown_more : (want : List ℕ) (before now after : Fed) (above : List Step) (step given : Step) → ShowsWith want before now above → given ≡ step
    → ((more : List Step) (v : Verdict) (w : Witness) → IsShown after want more v w → IsShown now want (given ∷ more) v w)
    → ShowsWith want before after (above ++ step ∷ [])
shown_more want before now after above step given shows is next more v w h =
    subst (λ s. IsShown before want s v w) (sym (append_assoc above (step ∷ []) more))
    (shows (step ∷ more) v w (subst (λ s. IsShown now want (s ∷ more) v w) is (next more v w h)))

module _ (before : Ahead) (want : List ℕ) where
  -- the end
  pub feeds_all : (fed now : Fed) (b c : Reading) (above : List Step) (steps : ℕ) (step : Step) (said : Said) → HasRead (reading before []) b above
      → steps ≡ length above → Advances b c steps step (Ok false) → IsFedWith want fed now above → ShowsWith want fed now above
      → said.steps ≡ length above → said.verdict ≡ to_come now want []
      → ((at : ℕ) (why : Why) → to_come now want [] ≡ No at why → IsShown now want [] (No at why) said.witness) → HadText before c.ahead (IsSaidOf fed want said)
  feeds_all fed now b c above steps step said p number q with_these shows counted told witnessed =
      let of = script_of before b c above steps step p number q in (
        of.0,
        of.1,
        record {
          steps = above;
          script = of.2;
          says = record {
            number = counted;
            told = told ∙ with_these [] ∙ ap (to_come fed want) (append-nil above);
            shown = λ at why no.
                subst (λ s. IsShown fed want s (No at why) said.witness) (append-nil above) (shows [] (No at why) said.witness (witnessed at why (sym told ∙ no)));
          };
        },
      )
