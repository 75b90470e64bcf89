use Rattle.std.proofs.Common.{arith}
use Rattle.nor_target.proofs.CountLemmas.{run_more, run_none}
use Rattle.nor_target.proofs.given.Goals as goal

pub loop-first-preserved : goal.loop-first-preserved
loop-first-preserved c =
    let next = c.in-Some.ensures in
    let more = run_more c.args.base c.args.image.now c.loop-first.done c.args.end c.in-Some.first c.in-Some.bytes.now c.requires.rising next in
    let past = next.past in
    let within = next.within in
    record {
      from = omega arith;
      to = within;
      few = omega arith;
      counted = omega (arith, more, c.loop-first.invariant.counted);
    }

pub returns : goal.returns
returns c =
    let rest = run_none c.args.base c.args.image.now c.loop-first.done c.args.end c.requires.rising c.requires.below c.loop-first.invariant.to c.in_default.ensures in
    omega (arith, rest, c.loop-first.invariant.counted)
