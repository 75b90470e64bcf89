-- The lines so far are those of the units before this one.
use Rattle.nor_outline.proofs.StretchLemmas.{AreSofar}
use Rattle.nor_outline.proofs.window.units_lines.Given as goal

abbrev pub invariant-loop-unit : goal.invariant-loop-unit
invariant-loop-unit l = AreSofar l.fn.meaning l.fn.strategy l.fn.at l.fn.have l.fn.want l.unit-index l.lines.items
