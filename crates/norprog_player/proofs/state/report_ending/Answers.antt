-- The chip's state was told first, where it is to be.
use Rattle.std.proofs.Common.{◌∙◌, ap}
use Rattle.nor_job.specs.declared.fault.BuildFault.TheVariants.{Write}
use Rattle.norprog_common.specs.declared.faults.Refusal.TheVariants.{Build}
use Rattle.norprog_common.specs.Lines.{printed}
use Rattle.norprog_common.specs.Told.{All_said, Cut_off, cut_status}
use Rattle.norprog_common.proofs.TellsLemmas.{told_then, wrote}
use Rattle.norprog_player.specs.State.{state_told}
use Rattle.norprog_player.proofs.state.report_ending.Goals as goal

pub returns-in-Ok-clause-said : goal.returns-in-Ok-clause-said
returns-in-Ok-clause-said g c =
    All_said c.status_of.ensures c.in-Ok.ensures.bytes
    (wrote g.E.ByteOut.held g.E.ByteOut.count _ _ c.write_state-told.result (state_told c.args.ending.now) c.write_state-told.ensures.bytes
    c.write_state-told.ensures.count)

-- that the line can't be printed came after it
pub returns-in-Err-clause-said : goal.returns-in-Err-clause-said
returns-in-Err-clause-said g c =
    Cut_off (c.refuse_lines.ensures.status ∙ ap cut_status c.status_of-in-Err.ensures) c.in-Err.ensures.bytes c.in-Err.ensures.count
    (told_then g.E.ByteOut.held g.E.ByteOut.count c.args.err.now c.write_state-told.new.err c.refuse_lines.new.err c.write_state-told.result
    (state_told c.args.ending.now) (printed (Build Write)) c.write_state-told.ensures.bytes c.write_state-told.ensures.count
    c.refuse_lines.ensures.told c.refuse_lines.ensures.lost)
