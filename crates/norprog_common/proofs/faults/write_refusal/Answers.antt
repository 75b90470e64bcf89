-- A refusal for usage has one line.
use Rattle.std.proofs.Common.{sym, subst}
use Rattle.nor_base.specs.Device.{Writes}
use Rattle.norprog_common.specs.declared.faults.Refusal.{Refusal}
use Rattle.norprog_common.specs.Lines.{printed}
use Rattle.norprog_common.proofs.faults.write_refusal.Goals as goal

pub returns-in-Usage-clause-bytes : goal.returns-in-Usage-clause-bytes
returns-in-Usage-clause-bytes g c =
    subst (λ (refusal : Refusal). Writes (g.E.ByteOut.held c.args.err.now) (g.E.ByteOut.held c.put_line.new.err) c.put_line.result (printed refusal))
    (sym c.in-Usage.is) c.put_line.ensures.bytes

pub returns-in-Page-clause-bytes : goal.returns-in-Page-clause-bytes
returns-in-Page-clause-bytes g c =
    subst (λ (refusal : Refusal). Writes (g.E.ByteOut.held c.args.err.now) (g.E.ByteOut.held c.put_line-in-Page.new.err) c.put_line-in-Page.result (printed refusal))
    (sym c.in-Page.is) c.put_line-in-Page.ensures.bytes

pub returns-in-BinSize-clause-bytes : goal.returns-in-BinSize-clause-bytes
returns-in-BinSize-clause-bytes g c =
    subst (λ (refusal : Refusal). Writes (g.E.ByteOut.held c.args.err.now) (g.E.ByteOut.held c.put_line-in-BinSize.new.err) c.put_line-in-BinSize.result (printed refusal))
    (sym c.in-BinSize.is) c.put_line-in-BinSize.ensures.bytes

pub returns-in-Steps-clause-bytes : goal.returns-in-Steps-clause-bytes
returns-in-Steps-clause-bytes g c =
    subst (λ (refusal : Refusal). Writes (g.E.ByteOut.held c.args.err.now) (g.E.ByteOut.held c.put_line-in-Steps.new.err) c.put_line-in-Steps.result (printed refusal))
    (sym c.in-Steps.is) c.put_line-in-Steps.ensures.bytes

pub returns-in-EmptyRegion-clause-bytes : goal.returns-in-EmptyRegion-clause-bytes
returns-in-EmptyRegion-clause-bytes g c =
    subst (λ (refusal : Refusal). Writes (g.E.ByteOut.held c.args.err.now) (g.E.ByteOut.held c.put_line-in-EmptyRegion.new.err) c.put_line-in-EmptyRegion.result (printed refusal))
    (sym c.in-EmptyRegion.is) c.put_line-in-EmptyRegion.ensures.bytes

pub returns-in-Log-clause-bytes : goal.returns-in-Log-clause-bytes
returns-in-Log-clause-bytes g c =
    subst (λ (refusal : Refusal). Writes (g.E.ByteOut.held c.args.err.now) (g.E.ByteOut.held c.put_line-in-Log.new.err) c.put_line-in-Log.result (printed refusal))
    (sym c.in-Log.is) c.put_line-in-Log.ensures.bytes

pub returns-in-Partial-clause-bytes : goal.returns-in-Partial-clause-bytes
returns-in-Partial-clause-bytes g c =
    subst (λ (refusal : Refusal). Writes (g.E.ByteOut.held c.args.err.now) (g.E.ByteOut.held c.put_partial.new.err) c.put_partial.result (printed refusal))
    (sym c.in-Partial.is) c.put_partial.ensures.bytes

pub returns-in-Beyond-clause-bytes : goal.returns-in-Beyond-clause-bytes
returns-in-Beyond-clause-bytes g c =
    subst (λ (refusal : Refusal). Writes (g.E.ByteOut.held c.args.err.now) (g.E.ByteOut.held c.put_beyond.new.err) c.put_beyond.result (printed refusal))
    (sym c.in-Beyond.is) c.put_beyond.ensures.bytes

pub returns-in-Nowhere-clause-bytes : goal.returns-in-Nowhere-clause-bytes
returns-in-Nowhere-clause-bytes g c =
    subst (λ (refusal : Refusal). Writes (g.E.ByteOut.held c.args.err.now) (g.E.ByteOut.held c.put_line-in-Nowhere.new.err) c.put_line-in-Nowhere.result (printed refusal))
    (sym c.in-Nowhere.is) c.put_line-in-Nowhere.ensures.bytes

pub returns-in-BinLength-clause-bytes : goal.returns-in-BinLength-clause-bytes
returns-in-BinLength-clause-bytes g c =
    subst (λ (refusal : Refusal). Writes (g.E.ByteOut.held c.args.err.now) (g.E.ByteOut.held c.put_length.new.err) c.put_length.result (printed refusal))
    (sym c.in-BinLength.is) c.put_length.ensures.bytes

pub returns-in-BinRegion-clause-bytes : goal.returns-in-BinRegion-clause-bytes
returns-in-BinRegion-clause-bytes g c =
    subst (λ (refusal : Refusal). Writes (g.E.ByteOut.held c.args.err.now) (g.E.ByteOut.held c.put_line-in-BinRegion.new.err) c.put_line-in-BinRegion.result (printed refusal))
    (sym c.in-BinRegion.is) c.put_line-in-BinRegion.ensures.bytes

pub returns-in-Conflict-clause-bytes : goal.returns-in-Conflict-clause-bytes
returns-in-Conflict-clause-bytes g c =
    subst (λ (refusal : Refusal). Writes (g.E.ByteOut.held c.args.err.now) (g.E.ByteOut.held c.put_line-in-Conflict.new.err) c.put_line-in-Conflict.result (printed refusal))
    (sym c.in-Conflict.is) c.put_line-in-Conflict.ensures.bytes
