-- The lines of the first difference.
use Rattle.std.proofs.Common.{subst, sym}
use Rattle.nor_base.specs.Device.{Writes}
use Rattle.norprog_flash.specs.Line.{comparison_line}
use Rattle.norprog_flash.specs.declared.compared.Comparison.{Comparison}
use Rattle.norprog_flash.proofs.line.write_comparison.Goals as goal

pub returns-in-Differs-clause-bytes : goal.returns-in-Differs-clause-bytes
returns-in-Differs-clause-bytes g c =
    subst (λ (x : Comparison). Writes (g.W.ByteOut.held c.args.writer.now) (g.W.ByteOut.held c.write_difference.new.writer) c.write_difference.result
    (comparison_line x)) (sym c.in-Differs.is) c.write_difference.ensures.bytes
