use Rattle.std.proofs.Common.{◌≡◌, ◌≤◌, ◌*◌, ◌^◌, take}
use Rattle.std.specs.Prelude.{sum_by}
use Rattle.nor_sheet.proofs.meaning.bytes_of.Given as goal

-- the bytes of the regions so far
abbrev pub invariant-loop-region : goal.invariant-loop-region
invariant-loop-region l = record {
  sum : l.sum ≡ sum_by (λ region. region.size) (take l.region-index l.regions);
  small : l.sum ≤ l.region-index * 2 ^ 32;
}
