-- What the image gives is what the runs have.
use Rattle.std.proofs.Common.{◌∙◌}
use Rattle.nor_target.proofs.ShareLemmas.{share_is, share_none}
use Rattle.nor_target.proofs.shares.share_between.Goals as goal

pub returns-in_err-first : goal.returns-in_err-first
returns-in_err-first c =
    c.from_residual.ensures ∙ share_none c.args.base c.args.image.now c.args.begin c.args.end c.iter.ensures.below c.in_err-first.ensures

pub returns : goal.returns
returns c =
    share_is c.args.base c.args.image.now c.args.begin c.args.end c.in_ok-first.first c.given.result _ c.iter.ensures.rising c.if-begin-end.false c.in_ok-first.ensures c.given.ensures
