-- By what fits.
use Rattle.std.proofs.Common.{◌∙◌, sym}
use Rattle.nor_serprog.proofs.CarriedLemmas.{carried_by, none_by}
use Rattle.nor_serprog.proofs.clocks.bits_sent.Goals as goal

pub returns-then-fits-clause-carried : goal.returns-then-fits-clause-carried
returns-then-fits-clause-carried c = carried_by c.args.limits.now c.args.clocks.now c.split.result.0.now c.split.result.1.now c.split.ensures.parts (sym c.fits.ensures ∙ c.if-fits.true)

pub returns-else-fits-clause-other : goal.returns-else-fits-clause-other
returns-else-fits-clause-other c = none_by c.args.limits.now c.args.clocks.now c.split.result.0.now c.split.result.1.now c.split.ensures.first c.split.ensures.parts (sym c.fits.ensures ∙ c.if-fits.false)
