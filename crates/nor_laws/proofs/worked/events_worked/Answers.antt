-- By computation; and of what comes after a program nothing is a verifying read.
use Rattle.std.proofs.Common.{◌≡◌, ℕ, zero, suc, ◌<◌, true, false, List, [], ◌∷◌, Some, None, refl, sym, ◌∙◌, ap, arith}
use Rattle.std.specs.Prelude.{slice_get}
use Rattle.nor_base.specs.declared.instruction.What.TheVariants as what
use Rattle.nor_base.specs.declared.step.Step.{Step}
use Rattle.nor_base.specs.Instructions.{row_of}
use Rattle.nor_base.specs.Decoding.{Instruction, decode, transaction, by_row, has_opcode, is_form, is_data, is_bit_sent, is_nibble_sent, is_bit_sampled, is_nibble_sampled, is_idle, bit, nibble}
use Rattle.nor_base.specs.Blocks.{is_legal}
use Rattle.nor_base.specs.Chip.{Chip}
use Rattle.nor_base.specs.Effect.{effect, effect_of, after, answer, is_out_of_range, last_byte_for, is_barred, programmed, erased}
use Rattle.nor_base.specs.Run.{step, run, polled, is_verify}
use Rattle.nor_base.specs.Events.{Event, events_from, step_events, polled_events, reads_address, VerifiesAddress}
use Rattle.nor_laws.specs.Worked.{chip_with, blank, one_byte_at_5}
use Rattle.nor_laws.specs.Seen.{one_program}
use Rattle.nor_laws.proofs.worked.events_worked.Goals as goal

pub returns-clause-steps : goal.returns-clause-steps
unfolding events_from step_events polled_events decode transaction by_row has_opcode is_form is_data is_bit_sent is_nibble_sent is_bit_sampled is_nibble_sampled is_idle bit row_of effect effect_of after answer is_out_of_range is_legal erased programmed is_barred last_byte_for step run polled is_verify
returns-clause-steps c = refl

pub returns-clause-erased : goal.returns-clause-erased
unfolding events_from step_events polled_events decode transaction by_row has_opcode is_form is_data is_bit_sent is_nibble_sent is_bit_sampled is_nibble_sampled is_idle bit row_of effect effect_of after answer is_out_of_range is_legal erased programmed is_barred last_byte_for step run polled is_verify
returns-clause-erased c = refl

-- the program as it is seen, and the status reads after it
abbrev programs : Event
programs = record {
  step = 1;
  seen = Some (record { what = what.Program; address = 5; sent = 0xA5 ∷ []; asked = 0 });
  chip = chip_with one_byte_at_5 false false 2 [];
}

abbrev status : Chip → Event
status after = record { step = 2; seen = Some (record { what = what.Status; address = 0; sent = []; asked = 1 }); chip = after }

no_read : (want : List ℕ) (steps : List Step) (a : ℕ) (after : Chip) (v : Event) → Some (status after) ≡ Some v → VerifiesAddress want steps a v → ⊥
no_read want steps a after v is verifies =
    let same : status after ≡ v = cc in
    let seen : Some (record { what = what.Status; address = 0; sent = []; asked = 1 }) ≡ Some verifies.seen = ap (λ (e : Event). e.seen) same ∙ verifies.is_seen in
    let reads : record { what = what.Status; address = 0; sent = []; asked = 1 } ≡ verifies.seen = cc in
    by_what verifies.seen reads verifies.reads
  where
    by_what : (i : Instruction) → record { what = what.Status; address = 0; sent = []; asked = 1 } ≡ i → reads_address a i ≡ true → ⊥
    by_what i same h = let none : reads_address a i ≡ false = ap (reads_address a) (sym same) in cc

later_none : (want : List ℕ) (steps : List Step) (a : ℕ) (first second : Event) (b c d : Chip) (k : ℕ) (v : Event) → 1 < k
    → slice_get (first ∷ second ∷ status b ∷ status c ∷ status d ∷ []) k ≡ Some v → VerifiesAddress want steps a v → ⊥
later_none want steps a first second b c d zero v past is verifies = omega (arith, past)
later_none want steps a first second b c d (suc zero) v past is verifies = omega (arith, past)
later_none want steps a first second b c d (suc (suc zero)) v past is verifies = no_read want steps a b v is verifies
later_none want steps a first second b c d (suc (suc (suc zero))) v past is verifies = no_read want steps a c v is verifies
later_none want steps a first second b c d (suc (suc (suc (suc zero)))) v past is verifies = no_read want steps a d v is verifies
later_none want steps a first second b c d (suc (suc (suc (suc (suc k))))) v past is verifies = let none : None ≡ Some v = is in cc

-- the chip with so many status reads left
abbrev left_with : ℕ → Chip
left_with n = chip_with one_byte_at_5 false false n []

pub returns-clause-unread : goal.returns-clause-unread
unfolding events_from step_events polled_events decode transaction by_row has_opcode is_form is_data is_bit_sent is_nibble_sent is_bit_sampled is_nibble_sampled is_idle bit row_of effect effect_of after answer is_out_of_range is_legal erased programmed is_barred last_byte_for step run polled is_verify
returns-clause-unread c h =
    let r = h 1 5 programs refl refl in
    later_none one_byte_at_5 one_program 5 (record { step = 0; seen = Some (record { what = what.Enable; address = 0; sent = []; asked = 0 }); chip = chip_with blank true false 0 (2 ∷ []) })
    programs (left_with 1) (left_with 0) (left_with 0) r.later r.event r.after r.there r.verifies
