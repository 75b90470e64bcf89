-- By computation.
use Rattle.std.proofs.Common.{refl}
use Rattle.nor_base.specs.Instructions.{row_of}
use Rattle.nor_base.specs.Decoding.{decode, transaction, by_row, has_opcode, is_form, is_data, is_bit_sent, is_nibble_sent, is_bit_sampled, is_nibble_sampled, is_idle, bit, nibble}
use Rattle.nor_base.specs.Blocks.{is_legal}
use Rattle.nor_base.specs.Effect.{effect, effect_of, after, answer, is_out_of_range, last_byte_for, is_barred, programmed, erased}
use Rattle.nor_base.specs.Run.{step, run, polled, is_verify, trail, step_trail, polled_trail}
use Rattle.nor_laws.proofs.worked.modes_worked.Goals as goal

pub returns-clause-plain : goal.returns-clause-plain
unfolding decode transaction by_row has_opcode is_form is_data is_bit_sent is_nibble_sent is_bit_sampled is_nibble_sampled is_idle bit row_of effect effect_of after answer is_out_of_range is_legal erased programmed is_barred last_byte_for step run polled is_verify trail step_trail polled_trail
returns-clause-plain c = refl

pub returns-clause-kept : goal.returns-clause-kept
unfolding decode transaction by_row has_opcode is_form is_data is_bit_sent is_nibble_sent is_bit_sampled is_nibble_sampled is_idle bit row_of effect effect_of after answer is_out_of_range is_legal erased programmed is_barred last_byte_for step run polled is_verify trail step_trail polled_trail
returns-clause-kept c = refl

pub returns-clause-dropped : goal.returns-clause-dropped
unfolding decode transaction by_row has_opcode is_form is_data is_bit_sent is_nibble_sent is_bit_sampled is_nibble_sampled is_idle bit row_of effect effect_of after answer is_out_of_range is_legal erased programmed is_barred last_byte_for step run polled is_verify trail step_trail polled_trail
returns-clause-dropped c = refl

pub returns-clause-left : goal.returns-clause-left
unfolding decode transaction by_row has_opcode is_form is_data is_bit_sent is_nibble_sent is_bit_sampled is_nibble_sampled is_idle bit row_of effect effect_of after answer is_out_of_range is_legal erased programmed is_barred last_byte_for step run polled is_verify trail step_trail polled_trail
returns-clause-left c = refl

pub returns-clause-left_too : goal.returns-clause-left_too
unfolding decode transaction by_row has_opcode is_form is_data is_bit_sent is_nibble_sent is_bit_sampled is_nibble_sampled is_idle bit row_of effect effect_of after answer is_out_of_range is_legal erased programmed is_barred last_byte_for step run polled is_verify trail step_trail polled_trail
returns-clause-left_too c = refl

pub returns-clause-needs : goal.returns-clause-needs
unfolding decode transaction by_row has_opcode is_form is_data is_bit_sent is_nibble_sent is_bit_sampled is_nibble_sampled is_idle bit row_of effect effect_of after answer is_out_of_range is_legal erased programmed is_barred last_byte_for step run polled is_verify trail step_trail polled_trail
returns-clause-needs c = refl
