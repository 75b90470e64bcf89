-- It fits, or it is doubled.
use Rattle.std.proofs.Common.{◌≡◌, ◌+◌, ◌-◌, ◌*◌, suc, sym, ◌∙◌, ap, arith}
use Rattle.nor_map.specs.Cells.{doubled}
use Rattle.nor_map.proofs.CellLemmas.{doubled_found, doubled_more}
use Rattle.nor_map.proofs.sizes.cell_size.Goals as goal

pub returns-then-from-clause-value : goal.returns-then-from-clause-value
returns-then-from-clause-value c = sym (c.loop.invariant.same ∙ doubled_found (16 - c.loop.counter) c.loop.cell c.args.size (omega arith))

pub loop-preserved : goal.loop-preserved
loop-preserved c = record {
  same =
      let one : 16 - c.loop.counter ≡ suc (16 - (c.loop.counter + 1)) = omega arith in
      let twice : 2 * c.loop.cell ≡ c.loop.cell * 2 = omega arith in
      c.loop.invariant.same
      ∙ doubled_more (16 - c.loop.counter) (16 - (c.loop.counter + 1)) c.loop.cell c.args.size one (omega arith)
      ∙ ap (λ n. doubled (16 - (c.loop.counter + 1)) n c.args.size) twice;
  some = omega (arith, c.loop.invariant.some);
}

pub returns-clause-value : goal.returns-clause-value
unfolding doubled
returns-clause-value c =
    let none : 16 - c.loop.counter ≡ 0 = omega arith in
    sym (c.loop.invariant.same ∙ ap (λ n. doubled n c.loop.cell c.args.size) none)
