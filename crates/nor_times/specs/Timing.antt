-- What is kept of the lines of a plan to report its times (this project's).
use Rattle.std.specs.Prelude.{ℕ, ◌≤◌, ◌*◌, ◌^◌, Bool, List, Option, count_by}
use Rattle.nor_base.specs.declared.meaning.Start.{Start}
use Rattle.nor_base.specs.Parameters.{Parameters}
use Rattle.nor_outline.specs.declared.line.PlanLine.{PlanLine}
use Rattle.nor_times.specs.declared.times.Times.{Times}
use Rattle.nor_times.specs.declared.busy.Busy.{Busy}
use Rattle.nor_times.specs.Bus.{Doing, doing_of, end_after, is_work, lines_clocks}
use Rattle.nor_times.specs.Busy.{known_busy}

-- how a plan is done, and what the chip's tables say of its times; of the lines the end of the block that was erased last, the clocks
-- and the busy time
pub record Sums : Type 0 where
  pub doing : Doing
  pub times : Option Times
  pub end : ℕ
  pub clocks : ℕ
  pub busy : Busy

-- of a plan's lines
unfoldable pub sums_of : Parameters → Start → Bool → Option Times → List PlanLine → Sums
sums_of m s verify times lines = record {
  doing = doing_of m s verify;
  times = times;
  end = end_after 0 lines;
  clocks = lines_clocks (doing_of m s verify) 0 lines;
  busy = known_busy times m lines;
}

-- with the number of lines that report an instruction
pub record Timing : Type 0 where
  pub works : ℕ
  pub sums : Sums

-- of a plan's lines
abbrev pub timing_of : Parameters → Start → Bool → Option Times → List PlanLine → Timing
timing_of m s verify times lines = record { works = count_by is_work lines; sums = sums_of m s verify times lines }

-- a line that reports an instruction takes at most 2^50 clocks and 2^64 microseconds
pub record AreFew (works clocks : ℕ) (busy : Busy) : Type 0 where
  pub clocks_fit : clocks ≤ works * 2 ^ 50
  pub typical_fits : busy.typical ≤ works * 2 ^ 64
  pub worst_fits : busy.worst ≤ works * 2 ^ 64
