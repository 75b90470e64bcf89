-- The walk ends behind the last of them, or where there are no more cells.
use Rattle.std.proofs.Common.{◌≡◌, ◌+◌, ◌/◌, min, ◌∙◌, sym, length, arith}
use Rattle.nor_map.proofs.CellLemmas.{touched, walked, marked_to}
use Rattle.nor_map.proofs.cells.mark.Goals as goal

pub returns : goal.returns
returns c =
    let n = length c.args.marks.now in
    let end : c.min-end.result ≡ min (c.args.last / c.args.cell + 1) n = c.min-end.ensures in
    record {
      same_length = c.loop-c.invariant.same_length;
      each = λ i inside.
          let walk = walked (c.args.first / c.args.cell) (c.args.last / c.args.cell) n c.loop-c.c i inside c.loop-c.invariant.from (omega (arith, end))
          (λ past. c.loop-c.invariant.ends (omega (arith, past, end))) in
          let is = touched c.args.cell (c.args.first, c.args.last) i c.requires.cell c.requires.order in
          c.loop-c.invariant.each i inside ∙ marked_to _ _ _ (walk ∙ sym is);
    }
