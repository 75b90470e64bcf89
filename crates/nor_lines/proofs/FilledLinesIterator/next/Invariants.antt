use Rattle.std.proofs.Common.{◌≡◌, ◌+◌, ◌^◌, ◌<◌, length}
use Rattle.nor_lines.specs.Lines.{filled_from}
use Rattle.nor_lines.proofs.FilledLinesIterator.next.Given as goal

-- the lines that are left give what all did, since those passed over are blank
abbrev pub invariant-loop-line : goal.invariant-loop-line
invariant-loop-line l = record {
  fits : l.self-inside.before + length l.self-inside.lines < 2 ^ 63;
  same : filled_from (l.self-inside.before + 1) l.self-inside.lines ≡ filled_from (l.initial.self-inside.before + 1) l.initial.self-inside.lines;
}

abbrev pub decreases-loop-line : goal.decreases-loop-line
decreases-loop-line l = length l.self-inside.lines
