-- What the clocks of a step are to all chips, from what was seen.
use Rattle.std.proofs.Common.{◌≡◌, ℕ, suc, ◌+◌, ◌==◌, Bool, true, false, not, ◌&&◌, if◌then◌else◌, List, [], ◌∷◌, length, Option, Some, None, option_map, Ok, Err, refl, sym, ◌∙◌, ap, arith}
use Rattle.std.specs.Str.{bytes_eq}
use Rattle.std.proofs.lemmas.Bool.{ne_eqb}
use Rattle.nor_base.specs.declared.instruction.What.{What}
use Rattle.nor_base.specs.declared.instruction.What.TheVariants as what
use Rattle.nor_base.specs.declared.step.Step.TheVariants.{Send, Poll, Verify}
use Rattle.nor_base.specs.declared.wrong.Wrong.{Wrong}
use Rattle.nor_base.specs.declared.wrong.Wrong.TheVariants as wrong
use Rattle.nor_base.specs.Parameters.{Parameters}
use Rattle.nor_base.specs.Instructions.{form_of}
use Rattle.nor_base.specs.Decoding.{Instruction, bytes_asked, bytes_sent, decode, instruction, transaction}
use Rattle.nor_base.specs.Chip.{Chip}
use Rattle.nor_base.specs.Effect.{answer, effect_of, is_program, is_read, is_status, wrong_of}
use Rattle.nor_base.specs.Run.{poll_clocks, is_verify}
use Rattle.nor_decode.specs.declared.seen.Seen.{Seen}
use Rattle.nor_decode.specs.Seen.{transaction_of}
use Rattle.nor_chip.specs.Sent.{instruction_of}
use Rattle.nor_chip.proofs.TakeLemmas.{taken, decoded, refused}
use Rattle.nor_check.specs.Apart.{leaves_page, lies_in_page}
use Rattle.nor_check.specs.Chips.{Kind, Chips, one_like, least_able}
use Rattle.nor_check.specs.Judged.{all_does, all_taken, all_effect, all_done, all_matched, all_step}

-- the clocks by what was seen
pub seen_none : (m : Parameters) (mode4 : Bool) (k : Kind) (w : Chips) (clocks : List ℕ) (found : Option Seen) → m ≡ k.meaning → mode4 ≡ w.mode4
    → option_map transaction_of found ≡ transaction m mode4 clocks → found ≡ None → decode k.meaning w.mode4 clocks ≡ None
unfolding decode
seen_none m mode4 k w clocks found meaning mode h none =
    ap (option_map instruction)
    (ap (λ (n : Parameters). transaction n w.mode4 clocks) (sym meaning) ∙ ap (λ b. transaction m b clocks) (sym mode) ∙ sym h ∙ ap (option_map transaction_of) none)

pub seen_some : (m : Parameters) (mode4 : Bool) (k : Kind) (w : Chips) (clocks : List ℕ) (found : Option Seen) (seen : Seen) → m ≡ k.meaning → mode4 ≡ w.mode4
    → option_map transaction_of found ≡ transaction m mode4 clocks → found ≡ Some seen → decode k.meaning w.mode4 clocks ≡ Some (instruction_of seen)
seen_some m mode4 k w clocks found seen meaning mode h some =
    ap (λ (n : Parameters). decode n w.mode4 clocks) (sym meaning) ∙ ap (λ b. decode m b clocks) (sym mode) ∙ decoded m mode4 clocks found seen h some

-- what all take
effect_taken : (k : Kind) (w : Chips) (i : Instruction) → wrong_of (effect_of (one_like k [] false) (least_able w) i) ≡ None
    → all_effect k w (Some i) ≡ Ok (all_does k w i i.what, answer (least_able w) i i.what)
effect_taken k w i h = ap (all_taken w i.what) (taken (one_like k [] false) (least_able w) i h).effect

effect_refused : (k : Kind) (w : Chips) (i : Instruction) (cause : Wrong) → wrong_of (effect_of (one_like k [] false) (least_able w) i) ≡ Some cause
    → all_effect k w (Some i) ≡ Err cause
effect_refused k w i cause h = ap (all_taken w i.what) (refused (effect_of (one_like k [] false) (least_able w) i) cause h)

module _ (k : Kind) (w : Chips) (clocks : List ℕ) where
  -- clocks sent once
  pub send_unknown : decode k.meaning w.mode4 clocks ≡ None → all_step k w (Send clocks) ≡ Err wrong.Unknown
  unfolding all_step
  send_unknown h = ap (λ o. all_done (all_effect k w o)) h

  pub send_refused : (i : Instruction) (cause : Wrong) → decode k.meaning w.mode4 clocks ≡ Some i
      → wrong_of (effect_of (one_like k [] false) (least_able w) i) ≡ Some cause → all_step k w (Send clocks) ≡ Err cause
  unfolding all_step
  send_refused i cause h is = ap (λ o. all_done (all_effect k w o)) h ∙ ap all_done (effect_refused k w i cause is)

  pub send_taken : (i : Instruction) → decode k.meaning w.mode4 clocks ≡ Some i → wrong_of (effect_of (one_like k [] false) (least_able w) i) ≡ None
      → all_step k w (Send clocks) ≡ Ok (all_does k w i i.what)
  unfolding all_step
  send_taken i h is = ap (λ o. all_done (all_effect k w o)) h ∙ ap all_done (effect_taken k w i is)

  -- a poll
  pub poll_unknown : bytes_eq clocks poll_clocks ≡ false → all_step k w (Poll clocks) ≡ Err wrong.Unknown
  unfolding all_step
  poll_unknown h = ap (λ b. if b then Ok (record w { busy = false }) else Err wrong.Unknown) h

  pub poll_taken : bytes_eq clocks poll_clocks ≡ true → all_step k w (Poll clocks) ≡ Ok (record w { busy = false })
  unfolding all_step
  poll_taken h = ap (λ b. if b then Ok (record w { busy = false }) else Err wrong.Unknown) h

  -- a verifying read
  verify_is : (expect : List ℕ) → is_verify clocks ≡ true → all_step k w (Verify clocks expect) ≡ all_matched expect (all_effect k w (decode k.meaning w.mode4 clocks))
  unfolding all_step
  verify_is expect verify = ap (λ b. if b then all_matched expect (all_effect k w (decode k.meaning w.mode4 clocks)) else Err wrong.Unknown) verify

  pub verify_not : (expect : List ℕ) → is_verify clocks ≡ false → all_step k w (Verify clocks expect) ≡ Err wrong.Unknown
  unfolding all_step
  verify_not expect verify = ap (λ b. if b then all_matched expect (all_effect k w (decode k.meaning w.mode4 clocks)) else Err wrong.Unknown) verify

  pub verify_unknown : (expect : List ℕ) → is_verify clocks ≡ true → decode k.meaning w.mode4 clocks ≡ None → all_step k w (Verify clocks expect) ≡ Err wrong.Unknown
  verify_unknown expect verify h = verify_is expect verify ∙ ap (λ o. all_matched expect (all_effect k w o)) h

  pub verify_refused : (expect : List ℕ) (i : Instruction) (cause : Wrong) → is_verify clocks ≡ true → decode k.meaning w.mode4 clocks ≡ Some i
      → wrong_of (effect_of (one_like k [] false) (least_able w) i) ≡ Some cause → all_step k w (Verify clocks expect) ≡ Err cause
  verify_refused expect i cause verify h is =
      verify_is expect verify ∙ ap (λ o. all_matched expect (all_effect k w o)) h ∙ ap (all_matched expect) (effect_refused k w i cause is)

  verify_given : (expect : List ℕ) (i : Instruction) → is_verify clocks ≡ true → decode k.meaning w.mode4 clocks ≡ Some i
      → wrong_of (effect_of (one_like k [] false) (least_able w) i) ≡ None
      → all_step k w (Verify clocks expect) ≡ (if bytes_eq (answer (least_able w) i i.what) expect then Ok (all_does k w i i.what) else Err wrong.Mismatch)
  verify_given expect i verify h is = verify_is expect verify ∙ ap (λ o. all_matched expect (all_effect k w o)) h ∙ ap (all_matched expect) (effect_taken k w i is)

  pub verify_differs : (expect : List ℕ) (i : Instruction) → is_verify clocks ≡ true → decode k.meaning w.mode4 clocks ≡ Some i
      → wrong_of (effect_of (one_like k [] false) (least_able w) i) ≡ None → bytes_eq (answer (least_able w) i i.what) expect ≡ false
      → all_step k w (Verify clocks expect) ≡ Err wrong.Mismatch
  verify_differs expect i verify h is differs =
      verify_given expect i verify h is ∙ ap (λ b. if b then Ok (all_does k w i i.what) else Err wrong.Mismatch) differs

  pub verify_taken : (expect : List ℕ) (i : Instruction) → is_verify clocks ≡ true → decode k.meaning w.mode4 clocks ≡ Some i
      → wrong_of (effect_of (one_like k [] false) (least_able w) i) ≡ None → bytes_eq (answer (least_able w) i i.what) expect ≡ true
      → all_step k w (Verify clocks expect) ≡ Ok (all_does k w i i.what)
  verify_taken expect i verify h is same =
      verify_given expect i verify h is ∙ ap (λ b. if b then Ok (all_does k w i i.what) else Err wrong.Mismatch) same

-- the bytes that an instruction gives
count_of_read : (w : What) (body : List ℕ) → is_read w ≡ true
    → length (bytes_sent (form_of w) body) + bytes_asked (form_of w) body ≡ bytes_asked (form_of w) body
count_of_read what.Read body h = omega arith
count_of_read what.QuadRead body h = omega arith
count_of_read other body h = cc

pub read_count : (seen : Seen) → is_read seen.what ≡ true → length (instruction_of seen).sent + (instruction_of seen).asked ≡ (instruction_of seen).asked
read_count seen h = count_of_read seen.what seen.body.now h

pub gives_none : (c : Chip) (i : Instruction) (w : What) → (w ≡ what.Read → ⊥) → (w ≡ what.QuadRead → ⊥) → is_status w ≡ false → answer c i w ≡ []
unfolding answer
gives_none c i what.Status read quad quiet = cc
gives_none c i what.Read read quad quiet = absurd (read refl)
gives_none c i what.QuadRead read quad quiet = absurd (quad refl)
gives_none c i other read quad quiet = refl

pub empty_is : (xs : List ℕ) → (length xs == 0) ≡ bytes_eq [] xs
empty_is [] = refl
empty_is (x ∷ xs) = ne_eqb (suc (length xs)) 0 (λ same. omega arith)

-- whether a program leaves a page
module _ (m : Parameters) (mode4 : Bool) (clocks : List ℕ) where
  pub leaves_none : decode m mode4 clocks ≡ None → false ≡ leaves_page m.page (decode m mode4 clocks)
  leaves_none h = sym (ap (leaves_page m.page) h)

  pub leaves_by : (i : Instruction) (page : ℕ) (lies : Bool) → decode m mode4 clocks ≡ Some i → is_program i.what ≡ true → page ≡ m.page
      → lies ≡ lies_in_page page i.address i.sent → not lies ≡ leaves_page m.page (decode m mode4 clocks)
  leaves_by i page lies h program same told =
      ap not (told ∙ ap (λ n. lies_in_page n i.address i.sent) same)
      ∙ sym (ap (leaves_page m.page) h ∙ ap (λ b. b && not (lies_in_page m.page i.address i.sent)) program)

  pub leaves_not : (i : Instruction) (b : Bool) → decode m mode4 clocks ≡ Some i → b ≡ is_program i.what → b ≡ false → b ≡ leaves_page m.page (decode m mode4 clocks)
  leaves_not i b h told other = other ∙ sym (ap (leaves_page m.page) h ∙ ap (λ b. b && not (lies_in_page m.page i.address i.sent)) (sym told ∙ other))
