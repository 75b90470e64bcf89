use Rattle.std.proofs.Common.{◌∙◌, arith}
use Rattle.nor_layout.specs.Chosen.{has}
use Rattle.nor_target.proofs.CountLemmas.{all_ignored, part_more, part_none}
use Rattle.nor_target.proofs.ignored.Goals as goal

pub loop-begin-init : goal.loop-begin-init
loop-begin-init c = record {
  within = omega arith;
  counted = c.count-left.ensures ∙ all_ignored c.args.base (has c.args.chosen.now) c.args.image.now;
}

pub overflow_sub-left : goal.overflow_sub-left
overflow_sub-left c =
    let more = part_more c.args.base (has c.args.chosen.now) c.args.image.now c.loop-begin.done c.args.size c.in-Some.begin c.in-Some.end c.given-left.result c.iter.ensures.rising c.in-Some.ensures c.given-left.ensures in
    omega (arith, more, c.loop-begin.invariant.counted)

pub loop-begin-preserved : goal.loop-begin-preserved
loop-begin-preserved c =
    let next = c.in-Some.ensures in
    let more = part_more c.args.base (has c.args.chosen.now) c.args.image.now c.loop-begin.done c.args.size c.in-Some.begin c.in-Some.end c.given-left.result c.iter.ensures.rising next c.given-left.ensures in
    record {
      within = next.within;
      counted = omega (arith, more, c.loop-begin.invariant.counted);
    }

pub returns-clause-count : goal.returns-clause-count
returns-clause-count c =
    c.loop-begin.invariant.counted ∙ part_none c.args.base (has c.args.chosen.now) c.args.image.now c.loop-begin.done c.args.size c.iter.ensures.rising c.loop-begin.invariant.within c.in_default.ensures
