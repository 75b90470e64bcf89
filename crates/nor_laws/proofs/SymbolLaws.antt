-- A clock is known by its symbol and by its lanes.
use Rattle.std.proofs.Common.{◌≡◌, ◌&&◌, ◌==◌, Option, Some, refl, sym, ◌∙◌, ap}
use Rattle.std.specs.List.{find}
use Rattle.nor_base.specs.declared.clock.Clock.{Clock}
use Rattle.nor_base.specs.declared.clock.Clock.TheVariants.{Zero, One, Nibble0, Nibble1, Nibble2, Nibble3, Nibble4, Nibble5, Nibble6, Nibble7, Nibble8, Nibble9, Nibble10, Nibble11, Nibble12, Nibble13, Nibble14, Nibble15, SampleOne, SampleFour, Idle}
use Rattle.nor_base.specs.declared.clock.Sample.{Sample}
use Rattle.nor_base.specs.Sample.{symbol, clocks, clock_at, sample}

pub symbols_found : (clock : Clock) → clock_at (symbol clock) ≡ Some clock
symbols_found Zero = refl
symbols_found One = refl
symbols_found Nibble0 = refl
symbols_found Nibble1 = refl
symbols_found Nibble2 = refl
symbols_found Nibble3 = refl
symbols_found Nibble4 = refl
symbols_found Nibble5 = refl
symbols_found Nibble6 = refl
symbols_found Nibble7 = refl
symbols_found Nibble8 = refl
symbols_found Nibble9 = refl
symbols_found Nibble10 = refl
symbols_found Nibble11 = refl
symbols_found Nibble12 = refl
symbols_found Nibble13 = refl
symbols_found Nibble14 = refl
symbols_found Nibble15 = refl
symbols_found SampleOne = refl
symbols_found SampleFour = refl
symbols_found Idle = refl

-- the clock of these lanes
clock_by : Sample → Option Clock
clock_by s = find (λ clock. ((sample clock).driven == s.driven) && (((sample clock).level == s.level) && ((sample clock).sampled == s.sampled))) clocks

found_by_lanes : (clock : Clock) → clock_by (sample clock) ≡ Some clock
unfolding clock_by
found_by_lanes Zero = refl
found_by_lanes One = refl
found_by_lanes Nibble0 = refl
found_by_lanes Nibble1 = refl
found_by_lanes Nibble2 = refl
found_by_lanes Nibble3 = refl
found_by_lanes Nibble4 = refl
found_by_lanes Nibble5 = refl
found_by_lanes Nibble6 = refl
found_by_lanes Nibble7 = refl
found_by_lanes Nibble8 = refl
found_by_lanes Nibble9 = refl
found_by_lanes Nibble10 = refl
found_by_lanes Nibble11 = refl
found_by_lanes Nibble12 = refl
found_by_lanes Nibble13 = refl
found_by_lanes Nibble14 = refl
found_by_lanes Nibble15 = refl
found_by_lanes SampleOne = refl
found_by_lanes SampleFour = refl
found_by_lanes Idle = refl

pub samples_apart : (c d : Clock) → sample c ≡ sample d → c ≡ d
samples_apart c d h = let same : Some c ≡ Some d = sym (found_by_lanes c) ∙ ap clock_by h ∙ found_by_lanes d in cc
