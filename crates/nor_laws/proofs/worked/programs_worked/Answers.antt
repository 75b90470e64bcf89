-- By computation.
use Rattle.std.proofs.Common.{refl}
use Rattle.nor_base.specs.Instructions.{row_of}
use Rattle.nor_base.specs.Decoding.{decode, transaction, by_row, has_opcode, is_form, is_data, is_bit_sent, is_nibble_sent, is_bit_sampled, is_nibble_sampled, is_idle, bit, nibble}
use Rattle.nor_base.specs.Blocks.{is_legal}
use Rattle.nor_base.specs.Effect.{effect, effect_of, after, answer, is_out_of_range, last_byte_for, is_barred, programmed, erased}
use Rattle.nor_base.specs.Run.{step, run, polled, is_verify, trail, step_trail, polled_trail}
use Rattle.nor_laws.proofs.worked.programs_worked.Goals as goal

pub returns-clause-enable : goal.returns-clause-enable
unfolding decode transaction by_row has_opcode is_form is_data is_bit_sent is_nibble_sent is_bit_sampled is_nibble_sampled is_idle bit row_of effect effect_of after answer is_out_of_range is_legal erased programmed is_barred last_byte_for step run polled is_verify trail step_trail polled_trail
returns-clause-enable c = refl

pub returns-clause-program : goal.returns-clause-program
unfolding decode transaction by_row has_opcode is_form is_data is_bit_sent is_nibble_sent is_bit_sampled is_nibble_sampled is_idle bit row_of effect effect_of after answer is_out_of_range is_legal erased programmed is_barred last_byte_for step run polled is_verify trail step_trail polled_trail
returns-clause-program c = refl

pub returns-clause-poll : goal.returns-clause-poll
unfolding decode transaction by_row has_opcode is_form is_data is_bit_sent is_nibble_sent is_bit_sampled is_nibble_sampled is_idle bit row_of effect effect_of after answer is_out_of_range is_legal erased programmed is_barred last_byte_for step run polled is_verify trail step_trail polled_trail
returns-clause-poll c = refl

pub returns-clause-count : goal.returns-clause-count
unfolding decode transaction by_row has_opcode is_form is_data is_bit_sent is_nibble_sent is_bit_sampled is_nibble_sampled is_idle bit row_of effect effect_of after answer is_out_of_range is_legal erased programmed is_barred last_byte_for step run polled is_verify trail step_trail polled_trail
returns-clause-count c = refl

pub returns-clause-busy : goal.returns-clause-busy
unfolding decode transaction by_row has_opcode is_form is_data is_bit_sent is_nibble_sent is_bit_sampled is_nibble_sampled is_idle bit row_of effect effect_of after answer is_out_of_range is_legal erased programmed is_barred last_byte_for step run polled is_verify trail step_trail polled_trail
returns-clause-busy c = refl

pub returns-clause-wrap : goal.returns-clause-wrap
unfolding decode transaction by_row has_opcode is_form is_data is_bit_sent is_nibble_sent is_bit_sampled is_nibble_sampled is_idle bit row_of effect effect_of after answer is_out_of_range is_legal erased programmed is_barred last_byte_for step run polled is_verify trail step_trail polled_trail
returns-clause-wrap c = refl

pub returns-clause-last : goal.returns-clause-last
unfolding decode transaction by_row has_opcode is_form is_data is_bit_sent is_nibble_sent is_bit_sampled is_nibble_sampled is_idle bit row_of effect effect_of after answer is_out_of_range is_legal erased programmed is_barred last_byte_for step run polled is_verify trail step_trail polled_trail
returns-clause-last c = refl

pub returns-clause-raise : goal.returns-clause-raise
unfolding decode transaction by_row has_opcode is_form is_data is_bit_sent is_nibble_sent is_bit_sampled is_nibble_sampled is_idle bit row_of effect effect_of after answer is_out_of_range is_legal erased programmed is_barred last_byte_for step run polled is_verify trail step_trail polled_trail
returns-clause-raise c = refl

pub returns-clause-latch : goal.returns-clause-latch
unfolding decode transaction by_row has_opcode is_form is_data is_bit_sent is_nibble_sent is_bit_sampled is_nibble_sampled is_idle bit row_of effect effect_of after answer is_out_of_range is_legal erased programmed is_barred last_byte_for step run polled is_verify trail step_trail polled_trail
returns-clause-latch c = refl

pub returns-clause-turn : goal.returns-clause-turn
unfolding decode transaction by_row has_opcode is_form is_data is_bit_sent is_nibble_sent is_bit_sampled is_nibble_sampled is_idle bit row_of effect effect_of after answer is_out_of_range is_legal erased programmed is_barred last_byte_for step run polled is_verify trail step_trail polled_trail
returns-clause-turn c = refl

pub returns-clause-past : goal.returns-clause-past
unfolding decode transaction by_row has_opcode is_form is_data is_bit_sent is_nibble_sent is_bit_sampled is_nibble_sampled is_idle bit row_of effect effect_of after answer is_out_of_range is_legal erased programmed is_barred last_byte_for step run polled is_verify trail step_trail polled_trail
returns-clause-past c = refl
