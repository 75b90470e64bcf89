use Rattle.std.proofs.Common.{◌+◌, ◌-◌, ◌∙◌, sym, refl, arith}
use Rattle.std.specs.Cmp.Lexicographic.{other_text}
use Rattle.nor_hex.proofs.PieceLemmas.{differs}
use Rattle.nor_hex.proofs.pieces.repeat_part.Goals as goal

pub returns-else-eq-clause-clash : goal.returns-else-eq-clause-clash
returns-else-eq-clause-clash c =
    (refl, differs c.args.given.now c.args.bytes.now (c.args.piece.place + (c.args.address - c.args.piece.first)) _ _ c.min-count.result _ (omega arith) (omega arith) (omega arith) (omega arith) (omega arith) (other_text _ _ (sym c.if-eq.false ∙ c.eq.ensures)))
