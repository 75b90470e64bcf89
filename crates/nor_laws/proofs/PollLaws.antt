-- A poll counts down the status reads that are left.
use Rattle.std.proofs.Common.{◌≡◌, ℕ, zero, suc, ◌+◌, ◌≤◌, Bool, true, false, if◌then◌else◌, List, [], ◌∷◌, length, Some, Result, Ok, Err, refl, arith}
use Rattle.std.specs.List.{AllByRecursion}
use Rattle.nor_base.specs.declared.wrong.Wrong.{Wrong}
use Rattle.nor_base.specs.declared.wrong.Wrong.TheVariants as wrong
use Rattle.nor_base.specs.declared.instruction.What.TheVariants as what
use Rattle.nor_base.specs.Parameters.{Parameters}
use Rattle.nor_base.specs.Instructions.{row_of}
use Rattle.nor_base.specs.Decoding.{Instruction, decode, transaction, by_row, has_opcode, is_form, is_data, is_bit_sent, is_nibble_sent, is_bit_sampled, is_nibble_sampled, is_idle, bit, nibble}
use Rattle.nor_base.specs.Chip.{Setting, Chip}
use Rattle.nor_base.specs.Effect.{effect, effect_of, after, answer, is_out_of_range}
use Rattle.nor_base.specs.Run.{poll_clocks, poll_on, polled, polled_trail, says_busy, trail_on}

-- on every chip, in each mode, the clocks of a poll are a status read of one byte
pub status_read : Instruction
status_read = record { what = what.Status; address = 0; sent = []; asked = 1 }

pub poll_is_status : (m : Parameters) (mode4 : Bool) → decode m mode4 poll_clocks ≡ Some (record { what = what.Status; address = 0; sent = []; asked = 1 })
unfolding decode transaction by_row has_opcode is_form is_data is_bit_sent is_nibble_sent is_bit_sampled is_nibble_sampled is_idle bit row_of
poll_is_status m mode4 = refl

-- the chip with so many status reads left
abbrev pub left_with : Chip → ℕ → Chip
left_with c n = record c { left = n }

-- with some left, a status read says busy and leaves one fewer
pub read_busy : (s : Setting) (c : Chip) (n : ℕ) → effect s (left_with c (suc n)) poll_clocks ≡ Ok (left_with c n, 3 ∷ [])
unfolding effect effect_of after answer is_out_of_range
read_busy s c n = rw (poll_is_status s.meaning c.mode4) refl

-- with none left it says idle
pub read_idle : (s : Setting) (c : Chip) → effect s (left_with c 0) poll_clocks ≡ Ok (left_with c 0, (if c.latch then 2 else 0) ∷ [])
unfolding effect effect_of after answer is_out_of_range
read_idle s c = rw (poll_is_status s.meaning c.mode4) refl

pub says_idle : (latch : Bool) → says_busy ((if latch then 2 else 0) ∷ []) ≡ false
says_idle true = refl
says_idle false = refl

stop_at_idle : (c d : Chip) (latch : Bool) (again : Chip → Result Chip Wrong)
    → poll_on (Ok (d, (if latch then 2 else 0) ∷ [])) again ≡ Ok d
stop_at_idle c d true again = refl
stop_at_idle c d false again = refl

no_more_after_idle : (d : Chip) (latch : Bool) (more : Chip → List Chip)
    → length (trail_on (Ok (d, (if latch then 2 else 0) ∷ [])) (λ after. if says_busy after.1 then more after.0 else [])) ≡ 1
no_more_after_idle d true more = refl
no_more_after_idle d false more = refl

pub poll_ends : (s : Setting) (c : Chip) (n : ℕ) → polled s (suc n) (left_with c n) ≡ Ok (left_with c 0)
unfolding polled
poll_ends s c zero = rw (read_idle s c) (stop_at_idle c (left_with c 0) c.latch (polled s 0))
poll_ends s c (suc n) = rw (read_busy s c n) (poll_ends s c n)

pub poll_count : (s : Setting) (c : Chip) (n : ℕ) → length (polled_trail s (suc n) (left_with c n)) ≡ n + 1
unfolding polled_trail
poll_count s c zero = rw (read_idle s c) (no_more_after_idle (left_with c 0) c.latch (polled_trail s 0))
poll_count s c (suc n) = rw (read_busy s c n) (let counted : length (polled_trail s (suc n) (left_with c n)) ≡ n + 1 = poll_count s c n in omega arith)

pub poll_needs_all : (s : Setting) (c : Chip) (turns n : ℕ) → turns ≤ n → polled s turns (left_with c n) ≡ Err wrong.PollNever
unfolding polled
poll_needs_all s c zero n fits = refl
poll_needs_all s c (suc turns) zero fits = absurd (omega arith)
poll_needs_all s c (suc turns) (suc n) fits = rw (read_busy s c n) (poll_needs_all s c turns n (omega arith))

one_after_idle : (P : List ℕ → Type 0) (d : Chip) (latch : Bool) (more : Chip → List Chip) → P d.array
    → AllByRecursion (λ e. P e.array) (trail_on (Ok (d, (if latch then 2 else 0) ∷ [])) (λ after. if says_busy after.1 then more after.0 else []))
one_after_idle P d true more h = (h, tt)
one_after_idle P d false more h = (h, tt)

-- what holds of the array holds of it all along a poll
pub poll_keeps_array : (P : List ℕ → Type 0) (s : Setting) (c : Chip) (n : ℕ) → P c.array
    → AllByRecursion (λ e. P e.array) (polled_trail s (suc n) (left_with c n))
unfolding polled_trail
poll_keeps_array P s c zero h = rw (read_idle s c) (one_after_idle P (left_with c 0) c.latch (polled_trail s 0) h)
poll_keeps_array P s c (suc n) h = rw (read_busy s c n) (h, poll_keeps_array P s c n h)
