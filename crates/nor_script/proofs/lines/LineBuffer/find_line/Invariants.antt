-- No LF among the bytes searched, which are held.
use Rattle.std.proofs.Common.{◌≡◌, ◌≤◌, ◌-◌, ◌^◌, false, [], length, take}
use Rattle.std.specs.List.{list_any}
use Rattle.nor_script.specs.Faults.{is_line_feed}
use Rattle.nor_script.specs.Stream.{reading, Reads}
use Rattle.nor_script.proofs.lines.LineBuffer.find_line.Given as goal

abbrev pub invariant-loop-searched : goal.invariant-loop-searched
invariant-loop-searched g l = record {
  reads : Reads (reading (g.R.ByteIn.ahead l.fn.source) l.fn.self.held) (reading (g.R.ByteIn.ahead l.source) l.self.held) [];
  within : l.searched ≤ length l.self.held;
  none : list_any is_line_feed (take l.searched l.self.held) ≡ false;
  count : g.R.ByteIn.count l.source ≡ g.R.ByteIn.count l.fn.source;
}

abbrev pub decreases-loop-searched : goal.decreases-loop-searched
decreases-loop-searched g l = 2 ^ 63 - length l.self.held
