-- The kinds before were put, and at a failure a proper prefix of this one.
use Rattle.std.proofs.Common.{◌++◌}
use Rattle.norprog.specs.ChipText.{kind_text}
use Rattle.nor_base.proofs.DeviceLaws.{Cuts-then, Cuts-more, Writes-then, Writes-cut}
use Rattle.norprog.proofs.chip_text.put_erases.Goals as goal

pub returns-in_err-put_kind-clause-bytes : goal.returns-in_err-put_kind-clause-bytes
returns-in_err-put_kind-clause-bytes g c =
    let m = c.args.meaning.now in
    Writes-cut _ _ _ _ c.from_residual.ensures.0
    (Cuts-more _ _ (kind_text m 1) (kind_text m 2 ++ (kind_text m 3 ++ kind_text m 4)) c.in_err-put_kind.ensures.bytes)

pub returns-in_err-put_kind-2-clause-bytes : goal.returns-in_err-put_kind-2-clause-bytes
returns-in_err-put_kind-2-clause-bytes g c =
    let m = c.args.meaning.now in
    Writes-cut _ _ _ _ c.from_residual-in_err-put_kind-2.ensures.0
    (Cuts-then _ _ _ (kind_text m 1) (kind_text m 2 ++ (kind_text m 3 ++ kind_text m 4)) c.in_ok-put_kind.ensures.bytes
    (Cuts-more _ _ (kind_text m 2) (kind_text m 3 ++ kind_text m 4) c.in_err-put_kind-2.ensures.bytes))

pub returns-in_err-put_kind-3-clause-bytes : goal.returns-in_err-put_kind-3-clause-bytes
returns-in_err-put_kind-3-clause-bytes g c =
    let m = c.args.meaning.now in
    Writes-cut _ _ _ _ c.from_residual-in_err-put_kind-3.ensures.0
    (Cuts-then _ _ _ (kind_text m 1) (kind_text m 2 ++ (kind_text m 3 ++ kind_text m 4)) c.in_ok-put_kind.ensures.bytes
    (Cuts-then _ _ _ (kind_text m 2) (kind_text m 3 ++ kind_text m 4) c.in_ok-put_kind-2.ensures.bytes
    (Cuts-more _ _ (kind_text m 3) (kind_text m 4) c.in_err-put_kind-3.ensures.bytes)))

pub returns-clause-bytes : goal.returns-clause-bytes
returns-clause-bytes g c =
    let m = c.args.meaning.now in
    Writes-then _ _ _ _ (kind_text m 1) (kind_text m 2 ++ (kind_text m 3 ++ kind_text m 4)) c.in_ok-put_kind.ensures.bytes
    (Writes-then _ _ _ _ (kind_text m 2) (kind_text m 3 ++ kind_text m 4) c.in_ok-put_kind-2.ensures.bytes
    (Writes-then _ _ _ _ (kind_text m 3) (kind_text m 4) c.in_ok-put_kind-3.ensures.bytes c.put_kind-4.ensures.bytes))
