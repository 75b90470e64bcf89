-- By computation.
use Rattle.std.proofs.Common.{◌≡◌, true, false, [], ◌∷◌, Result, Ok, refl, sym, ◌∙◌, ap}
use Rattle.nor_base.specs.Instructions.{row_of}
use Rattle.nor_base.specs.Decoding.{decode, transaction, by_row, has_opcode, is_form, is_data, is_bit_sent, is_nibble_sent, is_bit_sampled, is_nibble_sampled, is_idle, bit, nibble}
use Rattle.nor_base.specs.Blocks.{is_legal}
use Rattle.nor_base.specs.Effect.{effect, effect_of, after, answer, is_out_of_range, last_byte_for, is_barred, programmed, erased}
use Rattle.nor_base.specs.Run.{step, run, polled, is_verify, Stop}
use Rattle.nor_laws.specs.Worked.{blank, chip_with, enable, program_at_5, one_byte_at_5}
use Rattle.nor_laws.specs.Stops.{here}
use Rattle.nor_base.specs.Chip.{Chip, ready, is_settled}
use Rattle.nor_laws.proofs.worked.stops_worked.Goals as goal

pub returns-clause-mismatch : goal.returns-clause-mismatch
unfolding decode transaction by_row has_opcode is_form is_data is_bit_sent is_nibble_sent is_bit_sampled is_nibble_sampled is_idle bit row_of effect effect_of after answer is_out_of_range is_legal erased programmed is_barred last_byte_for step run polled is_verify is_settled
returns-clause-mismatch c = refl

pub returns-clause-idle : goal.returns-clause-idle
unfolding decode transaction by_row has_opcode is_form is_data is_bit_sent is_nibble_sent is_bit_sampled is_nibble_sampled is_idle bit row_of effect effect_of after answer is_out_of_range is_legal erased programmed is_barred last_byte_for step run polled is_verify is_settled
returns-clause-idle c = refl

pub returns-clause-busy : goal.returns-clause-busy
unfolding decode transaction by_row has_opcode is_form is_data is_bit_sent is_nibble_sent is_bit_sampled is_nibble_sampled is_idle bit row_of effect effect_of after answer is_out_of_range is_legal erased programmed is_barred last_byte_for step run polled is_verify is_settled
returns-clause-busy c = refl

pub returns-clause-status : goal.returns-clause-status
unfolding decode transaction by_row has_opcode is_form is_data is_bit_sent is_nibble_sent is_bit_sampled is_nibble_sampled is_idle bit row_of effect effect_of after answer is_out_of_range is_legal erased programmed is_barred last_byte_for step run polled is_verify is_settled
returns-clause-status c = refl

pub returns-clause-nothing : goal.returns-clause-nothing
unfolding decode transaction by_row has_opcode is_form is_data is_bit_sent is_nibble_sent is_bit_sampled is_nibble_sampled is_idle bit row_of effect effect_of after answer is_out_of_range is_legal erased programmed is_barred last_byte_for step run polled is_verify is_settled
returns-clause-nothing c = refl

pub returns-clause-nine : goal.returns-clause-nine
unfolding decode transaction by_row has_opcode is_form is_data is_bit_sent is_nibble_sent is_bit_sampled is_nibble_sampled is_idle bit row_of effect effect_of after answer is_out_of_range is_legal erased programmed is_barred last_byte_for step run polled is_verify is_settled
returns-clause-nine c = refl

pub returns-clause-quad : goal.returns-clause-quad
unfolding decode transaction by_row has_opcode is_form is_data is_bit_sent is_nibble_sent is_bit_sampled is_nibble_sampled is_idle bit row_of effect effect_of after answer is_out_of_range is_legal erased programmed is_barred last_byte_for step run polled is_verify is_settled
returns-clause-quad c = refl

pub returns-clause-first : goal.returns-clause-first
unfolding decode transaction by_row has_opcode is_form is_data is_bit_sent is_nibble_sent is_bit_sampled is_nibble_sampled is_idle bit row_of effect effect_of after answer is_out_of_range is_legal erased programmed is_barred last_byte_for step run polled is_verify is_settled
returns-clause-first c = refl

pub returns-clause-status_latch : goal.returns-clause-status_latch
unfolding decode transaction by_row has_opcode is_form is_data is_bit_sent is_nibble_sent is_bit_sampled is_nibble_sampled is_idle bit row_of effect effect_of after answer is_out_of_range is_legal erased programmed is_barred last_byte_for step run polled is_verify is_settled
returns-clause-status_latch c = refl

pub returns-clause-status_busy : goal.returns-clause-status_busy
unfolding decode transaction by_row has_opcode is_form is_data is_bit_sent is_nibble_sent is_bit_sampled is_nibble_sampled is_idle bit row_of effect effect_of after answer is_out_of_range is_legal erased programmed is_barred last_byte_for step run polled is_verify is_settled
returns-clause-status_busy c = refl

-- a run leads to one chip
other_chip : (a d : Chip) → is_settled here a ≡ false → (r : Result Chip Stop) → r ≡ Ok a → r ≡ Ok d → is_settled here d ≡ true → ⊥
other_chip a d unsettled r is also settled =
    let both : Ok a ≡ Ok d = sym is ∙ also in
    let same : a ≡ d = cc in
    let clash : true ≡ false = sym settled ∙ ap (is_settled here) (sym same) ∙ unsettled in cc

latch_run : run here (ready here blank) (enable ∷ []) ≡ Ok (chip_with blank true false 0 (2 ∷ []))
unfolding decode transaction by_row has_opcode is_form is_data is_bit_sent is_nibble_sent is_bit_sampled is_nibble_sampled is_idle bit row_of effect effect_of after answer is_out_of_range is_legal erased programmed is_barred last_byte_for step run polled is_verify
latch_run = refl

busy_run : run here (ready here blank) (enable ∷ program_at_5 ∷ []) ≡ Ok (chip_with one_byte_at_5 false false 2 [])
unfolding decode transaction by_row has_opcode is_form is_data is_bit_sent is_nibble_sent is_bit_sampled is_nibble_sampled is_idle bit row_of effect effect_of after answer is_out_of_range is_legal erased programmed is_barred last_byte_for step run polled is_verify
busy_run = refl

latch_unsettled : is_settled here (chip_with blank true false 0 (2 ∷ [])) ≡ false
unfolding is_settled
latch_unsettled = refl

busy_unsettled : is_settled here (chip_with one_byte_at_5 false false 2 []) ≡ false
unfolding is_settled
busy_unsettled = refl

pub returns-clause-latch_left : goal.returns-clause-latch_left
returns-clause-latch_left c d good = other_chip (chip_with blank true false 0 (2 ∷ [])) d latch_unsettled _ latch_run good.runs good.settled

pub returns-clause-busy_left : goal.returns-clause-busy_left
returns-clause-busy_left c d good = other_chip (chip_with one_byte_at_5 false false 2 []) d busy_unsettled _ busy_run good.runs good.settled

pub returns-clause-kept : goal.returns-clause-kept
unfolding decode transaction by_row has_opcode is_form is_data is_bit_sent is_nibble_sent is_bit_sampled is_nibble_sampled is_idle bit row_of effect effect_of after answer is_out_of_range is_legal erased programmed is_barred last_byte_for step run polled is_verify is_settled
returns-clause-kept c = refl

pub returns-clause-elsewhere : goal.returns-clause-elsewhere
unfolding decode transaction by_row has_opcode is_form is_data is_bit_sent is_nibble_sent is_bit_sampled is_nibble_sampled is_idle bit row_of effect effect_of after answer is_out_of_range is_legal erased programmed is_barred last_byte_for step run polled is_verify is_settled
returns-clause-elsewhere c = refl

pub returns-clause-least : goal.returns-clause-least
unfolding decode transaction by_row has_opcode is_form is_data is_bit_sent is_nibble_sent is_bit_sampled is_nibble_sampled is_idle bit row_of effect effect_of after answer is_out_of_range is_legal erased programmed is_barred last_byte_for step run polled is_verify is_settled
returns-clause-least c = refl

pub returns-clause-larger : goal.returns-clause-larger
unfolding decode transaction by_row has_opcode is_form is_data is_bit_sent is_nibble_sent is_bit_sampled is_nibble_sampled is_idle bit row_of effect effect_of after answer is_out_of_range is_legal erased programmed is_barred last_byte_for step run polled is_verify is_settled
returns-clause-larger c = refl
