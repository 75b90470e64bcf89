-- The regions so far are those of the names so far.
use Rattle.std.proofs.Common.{◌≡◌, take}
use Rattle.std.specs.Prelude.{filter_map}
use Rattle.nor_target.specs.Shares.{region_named}
use Rattle.nor_target.proofs.shares.named_regions.Given as goal

abbrev pub invariant-loop-name : goal.invariant-loop-name
invariant-loop-name l = l.chosen.items ≡ filter_map (region_named l.regions) (take l.name-index l.names)
