-- The busy times of a chip in memory, counted.
use Rattle.std.proofs.Common.{◌≡◌, refl}
use Rattle.nor_chip.specs.Busy.{most_times}

pub most_is : 18446744073709551615 ≡ most_times
unfolding most_times
most_is = refl
