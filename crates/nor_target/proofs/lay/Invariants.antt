use Rattle.std.proofs.Common.{◌≡◌, ◌≤◌, ◌-◌, length}
use Rattle.nor_hex.specs.Image.{byte_at}
use Rattle.nor_target.specs.Runs.{IsLaid, overlay}
use Rattle.nor_target.proofs.lay.Given as goal

abbrev pub decreases-loop-first : goal.decreases-loop-first
decreases-loop-first l = l.end - l.done

abbrev pub invariant-loop-first : goal.invariant-loop-first
invariant-loop-first l = record {
  from : l.begin ≤ l.done;
  to : l.done ≤ l.end;
  same_length : length l.want ≡ length l.fn.want;
  laid : IsLaid (overlay (byte_at l.image) l.base l.at) l.fn.want l.want l.begin l.done;
}
