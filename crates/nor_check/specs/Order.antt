-- Which of two verdicts is the earlier (this project's).
use Rattle.std.specs.Prelude.{ℕ, Bool, true, false, ◌+◌, ◌==◌, nat_lt, ◌&&◌, ◌||◌, if◌then◌else◌}
use Rattle.nor_base.specs.declared.wrong.Wrong.{Wrong}
use Rattle.nor_base.specs.declared.wrong.Wrong.TheVariants as wrong
use Rattle.nor_check.specs.declared.verdict.Verdict.{Verdict}
use Rattle.nor_check.specs.declared.verdict.Verdict.TheVariants.{Yes, No}
use Rattle.nor_check.specs.declared.verdict.Why.{Why}
use Rattle.nor_check.specs.declared.verdict.Why.TheVariants as why

-- the order of the causes at one step; Raised and NotErased never meet on the chips of one meaning
abbrev pub rank_of : Wrong → ℕ
rank_of wrong.Unknown = 0
rank_of wrong.Ignored = 1
rank_of wrong.OutOfRange = 2
rank_of wrong.Raised = 3
rank_of wrong.NotErased = 4
rank_of wrong.Mismatch = 5
rank_of wrong.PollNever = 6
rank_of wrong.NotIdleAtEnd = 7

-- behind them a byte that differs, a lower address before a higher one
abbrev pub rank : Why → ℕ
rank (why.Wrong cause) = rank_of cause
rank (why.Differs address) = 8 + address

-- the first tells of an earlier step than the second or, at the same one, of an earlier cause; Yes is after all others
abbrev pub is_before : Verdict → Verdict → Bool
is_before Yes other = false
is_before (No k a) Yes = true
is_before (No k a) (No n b) = nat_lt k n || ((k == n) && nat_lt (rank a) (rank b))

-- of two verdicts the earlier; the first where neither is
abbrev pub earlier : Verdict → Verdict → Verdict
earlier first second = if is_before second first then second else first
