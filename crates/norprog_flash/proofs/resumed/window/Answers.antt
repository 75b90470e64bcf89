-- What there is of a window.
use Rattle.std.proofs.Common.{◌<◌, ◌≤◌, ◌*◌, length, arith}
use Rattle.norprog_flash.proofs.ResumedLemmas.{no_window, same_window}
use Rattle.norprog_flash.proofs.resumed.window.Goals as goal

pub returns-then-bytes-start : goal.returns-then-bytes-start
returns-then-bytes-start c =
    let past : length c.args.bytes.now < c.args.number * c.args.size = omega (arith, c.if-bytes-start.true) in
    no_window c.args.size c.args.bytes.now c.args.number past

pub returns : goal.returns
returns c =
    let bytes = c.args.bytes.now in
    let within : c.args.number * c.args.size ≤ length bytes = omega (arith, c.if-bytes-start.false) in
    same_window c.args.size bytes c.args.number c.min.result within c.min.ensures
