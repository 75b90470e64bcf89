use Rattle.std.proofs.Common.{map}
use Rattle.nor_lines.specs.Lines.{filled_lines}
use Rattle.nor_sheet.proofs.ReadLemmas.{IsRead}
use Rattle.nor_sheet.proofs.reader.read.Given as goal

-- the lines so far were read
abbrev pub invariant-loop-number : goal.invariant-loop-number
invariant-loop-number l = IsRead (filled_lines l.text) (map (λ line. (line.0, line.1.now)) l.yielded) l.number-iterator l.sheet
