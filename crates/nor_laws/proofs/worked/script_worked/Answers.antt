-- By computation.
use Rattle.std.proofs.Common.{refl, ◌∷◌, replicate, false, []}
use Rattle.nor_base.specs.Instructions.{row_of}
use Rattle.nor_base.specs.Decoding.{decode, transaction, by_row, has_opcode, is_form, is_data, is_bit_sent, is_nibble_sent, is_bit_sampled, is_nibble_sampled, is_idle, bit, nibble}
use Rattle.nor_base.specs.Blocks.{is_legal}
use Rattle.nor_base.specs.Effect.{effect, effect_of, after, answer, is_out_of_range, last_byte_for, is_barred, programmed, erased}
use Rattle.nor_base.specs.Run.{step, run, polled, is_verify, trail, step_trail, polled_trail}
use Rattle.std.specs.Fmt.{digits}
use Rattle.nor_base.specs.Chip.{is_settled}
use Rattle.nor_base.specs.Script.{script_text, header, end_line, step_lines, step_line}
use Rattle.nor_laws.specs.Worked.{chip_with}
use Rattle.nor_laws.proofs.worked.script_worked.Goals as goal

pub returns-clause-text : goal.returns-clause-text
unfolding script_text header end_line step_lines step_line digits
returns-clause-text c = refl

pub returns-clause-length : goal.returns-clause-length
returns-clause-length c = refl

pub returns-clause-idle : goal.returns-clause-idle
unfolding decode transaction by_row has_opcode is_form is_data is_bit_sent is_nibble_sent is_bit_sampled is_nibble_sampled is_idle bit row_of effect effect_of after answer is_out_of_range is_legal erased programmed is_barred last_byte_for step run polled is_verify trail step_trail polled_trail is_settled
returns-clause-idle c = record {
  final = chip_with (0 ∷ replicate 8191 255) false false 0 [];
  good = record { runs = refl; settled = refl };
  array = refl;
}

pub returns-clause-busy : goal.returns-clause-busy
unfolding decode transaction by_row has_opcode is_form is_data is_bit_sent is_nibble_sent is_bit_sampled is_nibble_sampled is_idle bit row_of effect effect_of after answer is_out_of_range is_legal erased programmed is_barred last_byte_for step run polled is_verify trail step_trail polled_trail is_settled
returns-clause-busy c = record {
  final = chip_with (0 ∷ replicate 8191 255) false false 0 [];
  good = record { runs = refl; settled = refl };
  array = refl;
}

pub returns-clause-busier : goal.returns-clause-busier
unfolding decode transaction by_row has_opcode is_form is_data is_bit_sent is_nibble_sent is_bit_sampled is_nibble_sampled is_idle bit row_of effect effect_of after answer is_out_of_range is_legal erased programmed is_barred last_byte_for step run polled is_verify trail step_trail polled_trail is_settled
returns-clause-busier c = record {
  final = chip_with (0 ∷ replicate 8191 255) false false 0 [];
  good = record { runs = refl; settled = refl };
  array = refl;
}
