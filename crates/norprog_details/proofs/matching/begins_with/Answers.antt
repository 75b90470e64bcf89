-- One argument more met the words.
use Rattle.std.proofs.Common.{sym, ◌∙◌}
use Rattle.norprog_details.specs.Matching.{Whole, Part, Apart}
use Rattle.norprog_details.proofs.RowLemmas.{after_one}
use Rattle.norprog_details.proofs.matching.begins_with.Goals as goal

pub returns-in-Whole : goal.returns-in-Whole
returns-in-Whole c =
    sym (c.loop-argument.invariant ∙ after_one c.args.asked.now c.loop-argument.argument-index c.argument-item.result c.as_slice.result.now c.loop-argument.left.now Whole
    c.loop-argument-test.true c.argument-item.is c.as_slice.ensures (sym c.in-Whole.ensures))

pub returns-in-Apart : goal.returns-in-Apart
returns-in-Apart c =
    sym (c.loop-argument.invariant ∙ after_one c.args.asked.now c.loop-argument.argument-index c.argument-item.result c.as_slice.result.now c.loop-argument.left.now Apart
    c.loop-argument-test.true c.argument-item.is c.as_slice.ensures (sym c.in-Apart.ensures))

pub loop-argument-preserved : goal.loop-argument-preserved
loop-argument-preserved c =
    c.loop-argument.invariant ∙ after_one c.args.asked.now c.loop-argument.argument-index c.argument-item.result c.as_slice.result.now c.loop-argument.left.now (Part c.in-Part.more.now)
    c.loop-argument-test.true c.argument-item.is c.as_slice.ensures (sym c.in-Part.ensures)
