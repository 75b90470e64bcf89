-- 32 bytes more, of which none is due.
use Rattle.std.proofs.Common.{sym, ◌∙◌, arith}
use Rattle.nor_erase.proofs.QuietLemmas.{quiet_more}
use Rattle.nor_erase.proofs.bytes.skip_quiet.Goals as goal

pub loop-i-preserved : goal.loop-i-preserved
loop-i-preserved c = (
  omega (arith, c.loop-i.invariant.0),
  λ low. omega arith,
  quiet_more c.args.meaning.now c.args.have.now c.args.want.now c.args.start c.loop-i.i c.requires (omega (arith, c.if-have-i-ge32.true, c.loop-i-test.true))
      (sym c.is_due_lanes.ensures ∙ c.if-is_due_lanes.false) c.loop-i.invariant.2,
)
