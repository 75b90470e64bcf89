-- The gap, and then the clocks.
use Rattle.nor_base.proofs.DeviceLaws.{Writes-cut}
use Rattle.nor_waves.proofs.DrawLemmas.{gap_cut, clocks_put, clocks_after}
use Rattle.nor_waves.proofs.drawing.Drawing.put_step.Goals as goal

pub returns-in_err-at-clause-bytes : goal.returns-in_err-at-clause-bytes
returns-in_err-at-clause-bytes g c = Writes-cut _ _ _ _ c.from_residual.ensures.0 (gap_cut c.args.self c.args.step.now _ _ c.in_err-at.ensures.bytes)

pub returns-clause-bytes : goal.returns-clause-bytes
returns-clause-bytes g c =
    clocks_put c.args.self c.in_ok-at.at c.args.step.now _ _ _ _ _ c.put_clocks.result c.clocks.ensures c.expected.ensures c.in_ok-at.ensures.bytes
    c.in_ok-at.ensures.drawn c.put_clocks.ensures.bytes

pub returns-clause-drawn : goal.returns-clause-drawn
returns-clause-drawn g c =
    clocks_after c.args.self c.in_ok-at.at c.args.step.now _ _ c.put_clocks.result c.clocks.ensures c.expected.ensures c.in_ok-at.ensures.drawn c.put_clocks.ensures.drawn
