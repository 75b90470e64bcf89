-- The header, the steps, the gap after the last, and the stamp of the end.
use Rattle.nor_base.proofs.DeviceLaws.{Writes-cut}
use Rattle.nor_waves.proofs.TextLemmas.{header_cut, steps_cut, last_cut, all_put}
use Rattle.nor_waves.proofs.writer.write_waves.Goals as goal

pub returns-in_err-put_header-clause-bytes : goal.returns-in_err-put_header-clause-bytes
returns-in_err-put_header-clause-bytes g c = Writes-cut _ _ _ _ c.from_residual.ensures.0 (header_cut c.args.steps.now _ _ c.in_err-put_header.ensures.bytes)

pub returns-in_err-at-clause-bytes : goal.returns-in_err-at-clause-bytes
returns-in_err-at-clause-bytes g c =
    Writes-cut _ _ _ _ c.from_residual-in_err-at.ensures.0
    (steps_cut c.args.steps.now _ _ _ c.in_ok-put_header.ensures.bytes c.in_err-at.ensures.bytes)

pub returns-in_err-end-clause-bytes : goal.returns-in_err-end-clause-bytes
returns-in_err-end-clause-bytes g c =
    Writes-cut _ _ _ _ c.from_residual-in_err-end.ensures.0
    (last_cut c.args.steps.now c.in_ok-at.at _ _ _ _ c.in_ok-put_header.ensures.bytes c.in_ok-at.ensures.bytes c.in_ok-at.ensures.drawn c.in_err-end.ensures.bytes)

pub returns-clause-bytes : goal.returns-clause-bytes
returns-clause-bytes g c =
    all_put c.args.steps.now c.in_ok-at.at c.in_ok-end.end _ _ _ _ _ c.put_stamp.result c.in_ok-put_header.ensures.bytes c.in_ok-at.ensures.bytes c.in_ok-at.ensures.drawn
    c.in_ok-end.ensures.bytes c.in_ok-end.ensures.drawn c.put_stamp.ensures.bytes
