-- An operation by its clocks.
use Rattle.std.proofs.Common.{arith}
use Rattle.nor_base.specs.Decoding.{bytes_of_bits}
use Rattle.nor_serprog.proofs.FollowLemmas.{of_want, operates_as}
use Rattle.nor_serprog.proofs.follow.operate_once.Goals as goal

pub operate_as-requires-clause-asked : goal.operate_as-requires-clause-asked
operate_as-requires-clause-asked g c =
    let carried = c.in-Some.ensures.carried in
    let op = of_want c.args.limits.now c.args.clocks.now _ c.args.want.now carried.0 carried.1 c.requires.want in
    omega (arith, op.few_asked, c.args.limits.now.few_asked)

pub returns-in-Some-clause-operates : goal.returns-in-Some-clause-operates
returns-in-Some-clause-operates g c =
    let carried = c.in-Some.ensures.carried in
    let sent = bytes_of_bits c.in-Some.bits.now in
    let op = of_want c.args.limits.now c.args.clocks.now sent c.args.want.now carried.0 carried.1 c.requires.want in
    operates_as _ _ _ _ c.args.limits.now c.args.clocks.now sent c.args.want.now c.operate_as.result op c.operate_as.ensures.known
