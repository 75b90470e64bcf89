-- The text was written, or a part of it by a writer that failed.
use Rattle.norprog_common.specs.Lines.{printed}
use Rattle.norprog_common.proofs.TellsLemmas.{wrote}
use Rattle.norprog_common.proofs.faults.refuse.Goals as goal

pub returns-clause-told : goal.returns-clause-told
returns-clause-told g c =
    wrote g.E.ByteOut.held g.E.ByteOut.count _ _ c.write_refusal.result (printed c.args.refusal.now) c.write_refusal.ensures.bytes c.write_refusal.ensures.count
