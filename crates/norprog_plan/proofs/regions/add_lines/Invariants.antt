-- The lines so far are those of the regions so far.
use Rattle.std.proofs.Common.{◌≡◌, ◌++◌, take}
use Rattle.nor_hex.specs.Image.{byte_at}
use Rattle.norprog_plan.specs.Regions.{region_lines}
use Rattle.norprog_plan.proofs.regions.add_lines.Given as goal

abbrev pub invariant-loop-region : goal.invariant-loop-region
invariant-loop-region l = record {
  lines : l.lines.inner.items ≡ l.fn.lines.inner.items ++ region_lines (byte_at l.image) l.base l.size (take l.region-index l.regions);
  works : l.lines.failed ≡ 0;
}
