-- At a failure what comes before this one was put, and a proper prefix of it.
use Rattle.std.proofs.Common.{ℕ, List, subst}
use Rattle.nor_base.specs.Device.{Cuts}
use Rattle.nor_base.proofs.DeviceLaws.{Cuts-at, Writes-cut}
use Rattle.norprog_flash.specs.State.{region_word}
use Rattle.norprog_flash.proofs.options.write_names.Goals as goal

pub returns-in_err-write_name-clause-bytes : goal.returns-in_err-write_name-clause-bytes
returns-in_err-write_name-clause-bytes g c =
    Writes-cut _ _ _ _ c.from_residual.ensures.0
    (Cuts-at region_word c.args.regions.now _ c.loop-region.region-index _ _ _ c.loop-region-test.true c.loop-region.invariant.put
    (subst (λ (t : List ℕ). Cuts (g.W.ByteOut.held c.loop-region.writer) (g.W.ByteOut.held c.write_name.new.writer) (region_word t)) c.region-item.is
    c.in_err-write_name.ensures.bytes))
