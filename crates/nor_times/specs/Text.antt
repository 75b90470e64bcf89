-- The lines of a plan's times (this project's).
use Rattle.std.specs.Prelude.{ℕ, List, ◌++◌, codes, decimal, Option, Some, None}
use Rattle.std.specs.Int.{div_ceil}
use Rattle.nor_times.specs.declared.busy.Busy.{Busy}

-- microseconds in whole milliseconds, rounded up
abbrev pub milliseconds : ℕ → ℕ
milliseconds microseconds = div_ceil microseconds 1000

-- `busy n ms typical n ms worst`
abbrev pub known_line : Busy → List ℕ
known_line b =
    codes "busy " ++ (decimal (milliseconds b.typical) ++ (codes " ms typical " ++ (decimal (milliseconds b.worst) ++ codes " ms worst\n")))

-- or `busy unknown`
abbrev pub busy_line : Option Busy → List ℕ
busy_line (Some b) = known_line b
busy_line None = codes "busy unknown\n"

-- `bus n clocks`
abbrev pub bus_line : ℕ → List ℕ
bus_line clocks = codes "bus " ++ (decimal clocks ++ codes " clocks\n")

unfoldable pub times_text : Option Busy → ℕ → List ℕ
times_text busy clocks = busy_line busy ++ bus_line clocks
