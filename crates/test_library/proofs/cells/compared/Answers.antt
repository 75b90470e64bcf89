-- The chip is the one of the cells.
use Rattle.std.proofs.Common.{sym, ◌∙◌, ap}
use Rattle.nor_base.specs.Parameters.{Parameters}
use Rattle.test_library.proofs.cells.compared.Goals as goal

pub compared-requires : goal.compared-requires
compared-requires c =
    let m = c.args.chip.now in
    let has = c.touch-2.ensures m _ _ (c.touch.ensures m _ _ c.in_ok-cells.ensures) in
    c.requires ∙ ap (λ (p : Parameters). p.size) (sym has.meaning)
