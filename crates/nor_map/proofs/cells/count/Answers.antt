-- None yet, one byte more, and all.
use Rattle.std.proofs.Common.{◌∙◌, sym, arith}
use Rattle.nor_map.proofs.CountLemmas.{all_bytes, more_counted, new_byte, no_bytes, none_counted, other_byte, same_counted}
use Rattle.nor_map.proofs.cells.count.Goals as goal
use Rattle.nor_map.proofs.cells.count.Goals.{then-has, else-has}

pub loop-a-init : goal.loop-a-init
loop-a-init c = record { counted = none_counted c.args.cell _ c.args.counts.now (no_bytes c.args.wanted.now c.args.first c.args.cell); from = omega arith }

pub loop-a-preserved : goal.loop-a-preserved
loop-a-preserved c =
    let at = c.loop-a.invariant in
    record {
      counted = elim c.if-has.branch [
        | then-has w ↦ rw w.counts-is (more_counted c.args.cell _ _ _ c.args.counts.now c.loop-a.counts _ at.counted w.count_byte.ensures
            (λ i. new_byte c.args.wanted.now c.args.first c.loop-a.a c.args.cell i at.from (sym c.has.ensures ∙ w.if-has.true)))
        | else-has w ↦ rw w.counts-is (same_counted c.args.cell _ _ c.args.counts.now c.loop-a.counts at.counted
            (λ i. other_byte c.args.wanted.now c.args.first c.loop-a.a c.args.cell i at.from (sym c.has.ensures ∙ w.if-has.false)))
      ];
      from = omega (arith, at.from);
    }

pub returns : goal.returns
returns c = same_counted c.args.cell _ _ c.args.counts.now c.loop-a.counts c.loop-a.invariant.counted
    (λ i. all_bytes c.args.wanted.now c.args.first c.args.last c.loop-a.a c.args.cell i (omega arith))
