-- What a text says that is neither empty nor `poll`.
use Rattle.std.proofs.Common.{◌≡◌, ◌∙◌, ℕ, true, false, List, [], ◌∷◌, length, refl, sym, ap}
use Rattle.std.specs.Prelude.{codes, not, nat_eq, if◌then◌else◌}
use Rattle.std.specs.List.{before_first, after_first}
use Rattle.std.specs.Str.{bytes_eq}
use Rattle.nor_base.specs.Run.{poll_clocks}
use Rattle.nor_base.specs.Array.{is_filled}
use Rattle.nor_base.specs.declared.step.Step.TheVariants.{Poll}
use Rattle.nor_log.specs.declared.line.Said.TheVariants.{Nothing, Does}
use Rattle.nor_log.specs.Line.{is_mark, answer_of, said_by, text_says}
use Rattle.nor_log.specs.Words.{bytes_of}

filled_text : (text : List ℕ) → nat_eq (length text) 0 ≡ false → is_filled text ≡ true
filled_text [] e = cc
filled_text (c ∷ text) e = refl

pub text_said : (text : List ℕ) → nat_eq (length text) 0 ≡ false → bytes_eq text (codes "poll") ≡ false
    → said_by (bytes_of (before_first is_mark text)) (answer_of (after_first is_mark text)) ≡ text_says text
text_said text filled poll =
    let said = said_by (bytes_of (before_first is_mark text)) (answer_of (after_first is_mark text)) in
    sym (ap (λ b. if not b then Nothing else if bytes_eq text (codes "poll") then Does (Poll poll_clocks) false else said) (filled_text text filled)
    ∙ ap (λ b. if b then Does (Poll poll_clocks) false else said) poll)
