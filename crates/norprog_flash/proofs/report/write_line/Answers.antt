-- What comes before the command, the command, and LF.
use Rattle.std.proofs.Common.{ℕ, List, ◌++◌, subst}
use Rattle.std.specs.Prelude.{codes}
use Rattle.std.specs.Io.KnownBytes.{Appends}
use Rattle.nor_base.specs.Device.{Cuts}
use Rattle.norprog_flash.specs.State.{first_name, way_on, state_front}
use Rattle.norprog_device.proofs.PartLemmas.{all_three, first_cut, second_cut}
use Rattle.norprog_flash.proofs.report.write_line.Goals as goal

pub returns-in_err-write_front-clause-bytes : goal.returns-in_err-write_front-clause-bytes
returns-in_err-write_front-clause-bytes g c =
    first_cut _ _ c.from_residual.result (state_front (first_name c.args.given.now)) (way_on c.args.given.now ++ codes "\n")
    c.from_residual.ensures.0
    (subst (λ (t : List ℕ). Cuts (g.E.ByteOut.held c.args.err.now) (g.E.ByteOut.held c.write_front.new.err) (state_front t)) c.first_name.ensures
    c.in_err-write_front.ensures.bytes)

pub returns-in_err-write_way_on-clause-bytes : goal.returns-in_err-write_way_on-clause-bytes
returns-in_err-write_way_on-clause-bytes g c =
    second_cut _ _ _ c.from_residual-in_err-write_way_on.result (state_front (first_name c.args.given.now)) (way_on c.args.given.now)
    (codes "\n") c.from_residual-in_err-write_way_on.ensures.0
    (subst (λ (t : List ℕ). Appends (g.E.ByteOut.held c.args.err.now) (g.E.ByteOut.held c.write_front.new.err) (state_front t)) c.first_name.ensures
    c.in_ok-write_front.ensures.bytes) c.in_err-write_way_on.ensures.bytes

pub returns-clause-bytes : goal.returns-clause-bytes
returns-clause-bytes g c =
    all_three _ _ _ _ c.put_all.result (state_front (first_name c.args.given.now)) (way_on c.args.given.now) (codes "\n")
    (subst (λ (t : List ℕ). Appends (g.E.ByteOut.held c.args.err.now) (g.E.ByteOut.held c.write_front.new.err) (state_front t)) c.first_name.ensures
    c.in_ok-write_front.ensures.bytes) c.in_ok-write_way_on.ensures.bytes c.put_all.ensures.bytes
