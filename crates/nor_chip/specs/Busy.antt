-- The busy times of a chip in memory (this project's).
use Rattle.std.specs.Prelude.{ℕ, ◌-◌, ◌^◌, List, replicate}
use Rattle.nor_chip.specs.declared.busy.BusyTimes.{BusyTimes}
use Rattle.nor_chip.specs.declared.busy.BusyTimes.TheVariants.{Listed, Each}

-- as many programs and erases as a chip in memory counts
unfoldable pub most_times : ℕ
most_times = 2 ^ 64 - 1

-- those that are listed; or one number for each of them
abbrev pub times_of : BusyTimes → List ℕ
times_of (Listed times) = times.items
times_of (Each reads) = replicate most_times reads
