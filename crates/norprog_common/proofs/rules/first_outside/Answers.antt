-- The lowest lies on the chip, and this is the first past its end.
use Rattle.std.proofs.Common.{arith}
use Rattle.norprog_common.proofs.RulesLemmas.{outside_run}
use Rattle.norprog_common.proofs.rules.first_outside.Goals as goal

pub returns : goal.returns
returns c =
    outside_run c.args.image.now c.args.base c.args.size c.in_ok-lowest.lowest c.in_ok-end.end c.in_ok-past.past c.in_ok-lowest.field-0-1.now c.in_ok-past.field-0-1.now
    c.in_ok-lowest.ensures (λ lt. omega (arith, lt, c.if-lowest-base.false)) c.in_ok-end.ensures.1 c.in_ok-past.ensures
