-- How much the steps of operations are (this project's).
use Rattle.std.specs.Prelude.{ℕ, ◌+◌, ◌*◌, ◌^◌, ◌≤◌, List, length, sum_by}
use Rattle.nor_base.specs.Operations.{Op, erases, writes, reads}
use Rattle.nor_select.specs.Streamed.{Streaming, next}
use Rattle.nor_steps.specs.declared.tally.Tally.{Tally}

-- an operation's erases, the bytes that it erases, and its programs
abbrev pub erases_of : Op → ℕ
erases_of (erases b) = 1
erases_of (writes p) = 0
erases_of (reads p) = 0

abbrev pub erased_of : Op → ℕ
erased_of (erases b) = b.size
erased_of (writes p) = 0
erased_of (reads p) = 0

abbrev pub programs_of : Op → ℕ
programs_of (erases b) = 0
programs_of (writes p) = 1
programs_of (reads p) = 0

-- of operations whose instructions are so many steps
abbrev pub tally_with : ℕ → List Op → Tally
tally_with steps ops = record {
  steps = steps;
  erases = sum_by erases_of ops;
  erased = sum_by erased_of ops;
  programs = sum_by programs_of ops;
}

-- of the next operations
abbrev pub tally_of : Streaming → List Op → Tally
tally_of s ops = tally_with (length (next s ops)) ops

abbrev pub nothing_told : Tally
nothing_told = record { steps = 0; erases = 0; erased = 0; programs = 0 }

abbrev pub sum_of : Tally → Tally → Tally
sum_of one other = record {
  steps = one.steps + other.steps;
  erases = one.erases + other.erases;
  erased = one.erased + other.erased;
  programs = one.programs + other.programs;
}

-- none of its numbers is above so many times 2^30
pub record IsFew (units : ℕ) (t : Tally) : Type 0 where
  pub steps : t.steps ≤ units * 2 ^ 30
  pub erases : t.erases ≤ units * 2 ^ 30
  pub erased : t.erased ≤ units * 2 ^ 30
  pub programs : t.programs ≤ units * 2 ^ 30
