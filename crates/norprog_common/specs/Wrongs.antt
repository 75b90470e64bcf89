-- The numbers by which it is told how a chip goes wrong (this project's).
use Rattle.std.specs.Prelude.{ℕ}
use Rattle.nor_base.specs.declared.wrong.Wrong.{Wrong}
use Rattle.nor_base.specs.declared.wrong.Wrong.TheVariants as wrong

abbrev pub wrong_number : Wrong → ℕ
wrong_number wrong.Ignored = 1
wrong_number wrong.Unknown = 2
wrong_number wrong.Raised = 3
wrong_number wrong.OutOfRange = 4
wrong_number wrong.Mismatch = 5
wrong_number wrong.PollNever = 6
wrong_number wrong.NotIdleAtEnd = 7
wrong_number wrong.NotErased = 8
