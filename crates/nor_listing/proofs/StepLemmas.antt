-- The words of a step and the mode after it, by its kind.
use Rattle.std.proofs.Common.{◌≡◌, ℕ, Bool, List, ◌++◌, None, sym, ◌∙◌, ap}
use Rattle.std.specs.Prelude.{codes, if◌then◌else◌}
use Rattle.std.specs.Str.{bytes_eq}
use Rattle.nor_base.specs.declared.step.Step.{Step}
use Rattle.nor_base.specs.declared.step.Step.TheVariants.{Send, Poll, Verify}
use Rattle.nor_base.specs.Parameters.{Parameters}
use Rattle.nor_base.specs.Decoding.{decode}
use Rattle.nor_base.specs.Run.{poll_clocks, is_verify}
use Rattle.nor_base.specs.Script.{closed, step_line}
use Rattle.nor_base.specs.Spelling.{mode_by}
use Rattle.nor_listing.specs.Listing.{send_words, verify_words, words, mode_past}

module _ (m : Parameters) (mode4 : Bool) (step : Step) (held clocks : List ℕ) (same : clocks ≡ held) where
  pub send_words_are : step ≡ Send held → closed (send_words m clocks (decode m mode4 clocks)) ≡ closed (words m mode4 step)
  unfolding words
  send_words_are is = ap (λ (c : List ℕ). closed (send_words m c (decode m mode4 c))) same ∙ sym (ap (λ (x : Step). closed (words m mode4 x)) is)

  pub send_mode_is : step ≡ Send held → mode_by mode4 (decode m mode4 clocks) ≡ mode_past m mode4 step
  unfolding mode_past
  send_mode_is is = ap (λ (c : List ℕ). mode_by mode4 (decode m mode4 c)) same ∙ sym (ap (mode_past m mode4) is)

  pub poll_words_are : step ≡ Poll held
      → closed (if bytes_eq clocks poll_clocks then codes "poll 05" else codes "unknown " ++ step_line (Poll clocks)) ≡ closed (words m mode4 step)
  unfolding words
  poll_words_are is =
      ap (λ (c : List ℕ). closed (if bytes_eq c poll_clocks then codes "poll 05" else codes "unknown " ++ step_line (Poll c))) same
      ∙ sym (ap (λ (x : Step). closed (words m mode4 x)) is)

  pub poll_mode_is : step ≡ Poll held → mode4 ≡ mode_past m mode4 step
  unfolding mode_past
  poll_mode_is is = sym (ap (mode_past m mode4) is)

  pub verify_words_are : (bytes expect : List ℕ) → expect ≡ bytes → step ≡ Verify held bytes
      → closed (verify_words clocks expect (if is_verify clocks then decode m mode4 clocks else None)) ≡ closed (words m mode4 step)
  unfolding words
  verify_words_are bytes expect same_bytes is =
      ap (λ (c : List ℕ). closed (verify_words c expect (if is_verify c then decode m mode4 c else None))) same
      ∙ ap (λ (e : List ℕ). closed (verify_words held e (if is_verify held then decode m mode4 held else None))) same_bytes
      ∙ sym (ap (λ (x : Step). closed (words m mode4 x)) is)

  pub verify_mode_is : (bytes : List ℕ) → step ≡ Verify held bytes → mode4 ≡ mode_past m mode4 step
  unfolding mode_past
  verify_mode_is bytes is = sym (ap (mode_past m mode4) is)
