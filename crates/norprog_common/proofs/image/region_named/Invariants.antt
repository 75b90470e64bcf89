-- No region so far has the name.
use Rattle.std.proofs.Common.{◌≡◌, drop}
use Rattle.nor_target.specs.Shares.{region_named}
use Rattle.norprog_common.proofs.image.region_named.Given as goal

abbrev pub invariant-loop-region : goal.invariant-loop-region
invariant-loop-region l = region_named l.regions l.name ≡ region_named (drop l.region-index l.regions) l.name
