-- By computation.
use Rattle.std.proofs.Common.{refl}
use Rattle.nor_base.specs.Instructions.{row_of}
use Rattle.nor_base.specs.Decoding.{decode, transaction, by_row, has_opcode, is_form, is_data, is_bit_sent, is_nibble_sent, is_bit_sampled, is_nibble_sampled, is_idle, bit, nibble}
use Rattle.nor_base.specs.Blocks.{is_legal}
use Rattle.nor_base.specs.Effect.{effect, effect_of, after, answer, is_out_of_range, last_byte_for, is_barred, programmed, erased}
use Rattle.nor_base.specs.Run.{step, run, polled, is_verify, trail, step_trail, polled_trail}
use Rattle.nor_laws.proofs.worked.instructions_worked.Goals as goal

pub returns-clause-quad : goal.returns-clause-quad
unfolding decode transaction by_row has_opcode is_form is_data is_bit_sent is_nibble_sent is_bit_sampled is_nibble_sampled is_idle bit row_of effect effect_of after answer is_out_of_range is_legal erased programmed is_barred last_byte_for step run polled is_verify trail step_trail polled_trail
returns-clause-quad c = refl

pub returns-clause-erase : goal.returns-clause-erase
unfolding decode transaction by_row has_opcode is_form is_data is_bit_sent is_nibble_sent is_bit_sampled is_nibble_sampled is_idle bit row_of effect effect_of after answer is_out_of_range is_legal erased programmed is_barred last_byte_for step run polled is_verify trail step_trail polled_trail
returns-clause-erase c = refl

pub returns-clause-inside : goal.returns-clause-inside
unfolding decode transaction by_row has_opcode is_form is_data is_bit_sent is_nibble_sent is_bit_sampled is_nibble_sampled is_idle bit row_of effect effect_of after answer is_out_of_range is_legal erased programmed is_barred last_byte_for step run polled is_verify trail step_trail polled_trail
returns-clause-inside c = refl

pub returns-clause-broken : goal.returns-clause-broken
unfolding decode transaction by_row has_opcode is_form is_data is_bit_sent is_nibble_sent is_bit_sampled is_nibble_sampled is_idle bit row_of effect effect_of after answer is_out_of_range is_legal erased programmed is_barred last_byte_for step run polled is_verify trail step_trail polled_trail
returns-clause-broken c = refl

pub returns-clause-unknown : goal.returns-clause-unknown
unfolding decode transaction by_row has_opcode is_form is_data is_bit_sent is_nibble_sent is_bit_sampled is_nibble_sampled is_idle bit row_of effect effect_of after answer is_out_of_range is_legal erased programmed is_barred last_byte_for step run polled is_verify trail step_trail polled_trail
returns-clause-unknown c = refl

pub returns-clause-seven : goal.returns-clause-seven
unfolding decode transaction by_row has_opcode is_form is_data is_bit_sent is_nibble_sent is_bit_sampled is_nibble_sampled is_idle bit row_of effect effect_of after answer is_out_of_range is_legal erased programmed is_barred last_byte_for step run polled is_verify trail step_trail polled_trail
returns-clause-seven c = refl

pub returns-clause-last : goal.returns-clause-last
unfolding decode transaction by_row has_opcode is_form is_data is_bit_sent is_nibble_sent is_bit_sampled is_nibble_sampled is_idle bit row_of effect effect_of after answer is_out_of_range is_legal erased programmed is_barred last_byte_for step run polled is_verify trail step_trail polled_trail
returns-clause-last c = refl

pub returns-clause-past : goal.returns-clause-past
unfolding decode transaction by_row has_opcode is_form is_data is_bit_sent is_nibble_sent is_bit_sampled is_nibble_sampled is_idle bit row_of effect effect_of after answer is_out_of_range is_legal erased programmed is_barred last_byte_for step run polled is_verify trail step_trail polled_trail
returns-clause-past c = refl
