-- The words are met whole, or not.
use Rattle.std.proofs.Common.{sym}
use Rattle.norprog_details.specs.Matching.{Whole, Part, Apart}
use Rattle.norprog_details.proofs.RowLemmas.{met_line}
use Rattle.norprog_details.proofs.matching.begins_line.Goals as goal

pub returns-in-Whole : goal.returns-in-Whole
returns-in-Whole c = sym (met_line c.args.words.now c.args.line.now Whole (sym c.in-Whole.ensures))

pub returns-in-Part : goal.returns-in-Part
returns-in-Part c = sym (met_line c.args.words.now c.args.line.now (Part c.in-Part._more.now) (sym c.in-Part.ensures))

pub returns-in-Apart : goal.returns-in-Apart
returns-in-Apart c = sym (met_line c.args.words.now c.args.line.now Apart (sym c.in-Apart.ensures))
