-- The text was printed, or some of it.
use Rattle.std.proofs.Common.{ℕ, List, arith, refl, subst}
use Rattle.std.specs.Io.KnownBytes.{Appends}
use Rattle.nor_base.specs.Device.{Cuts}
use Rattle.norprog_named.specs.Asked.{CutOff, Printed}
use Rattle.norprog_cli.proofs.command.help.Goals as goal

pub returns-in-Ok-clause-ends : goal.returns-in-Ok-clause-ends
returns-in-Ok-clause-ends g c =
    Printed c.args.text.now refl
    (subst (λ (bytes : List ℕ). Appends (g.O.ByteOut.held c.args.out.now) (g.O.ByteOut.held c.put_all.new.writer) bytes) c.as_bytes.ensures.value
    c.in-Ok.ensures.bytes)

pub returns-in-Err-clause-ends : goal.returns-in-Err-clause-ends
returns-in-Err-clause-ends g c =
    CutOff c.args.text.now refl
    (subst (λ (bytes : List ℕ). Cuts (g.O.ByteOut.held c.args.out.now) (g.O.ByteOut.held c.put_all.new.writer) bytes) c.as_bytes.ensures.value
    c.in-Err.ensures.bytes) c.in-Err.ensures.count
