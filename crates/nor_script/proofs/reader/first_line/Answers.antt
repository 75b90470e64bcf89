-- The first line by its LF.
use Rattle.std.proofs.Common.{sym, ◌∙◌}
use Rattle.nor_script.proofs.ReadLemmas.{begins, unclosed}
use Rattle.nor_script.proofs.reader.first_line.Goals as goal

pub returns-in_default : goal.returns-in_default
returns-in_default c = unclosed c.args.text.now (sym c.place_of.ensures ∙ c.in_default.is)

pub returns : goal.returns
returns c = begins c.args.text.now c.in-Some.end (sym c.in-Some.ensures)
