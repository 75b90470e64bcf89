-- A piece more.
use Rattle.std.proofs.Common.{subst, sym}
use Rattle.nor_layout.specs.Chosen.{has}
use Rattle.norprog_flash.specs.Near.{Gets}
use Rattle.norprog_flash.proofs.NearLemmas.{SpansSoFar, piece_more}
use Rattle.norprog_flash.proofs.near.span_of.Goals as goal

pub loop-begin-preserved-then-begin-end : goal.loop-begin-preserved-then-begin-end
loop-begin-preserved-then-begin-end c =
    let gets = Gets c.args.image.now c.args.base (has c.args.chosen.now) in
    subst (λ n. SpansSoFar gets n c.in-Some.end c.in-Some.end) (sym c.min-low.ensures)
    (piece_more gets c.loop-begin.low c.loop-begin.high c.loop-begin.done c.in-Some.begin c.in-Some.end c.loop-begin.invariant c.in-Some.ensures c.if-begin-end.true)
