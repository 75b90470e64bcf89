-- The inputs are the request's task, with what the files hold.
use Rattle.std.proofs.Common.{ap, ◌∙◌}
use Rattle.norprog_common.specs.Chip.{origin_of, task_chip}
use Rattle.norprog_common.specs.Held.{held_in}
use Rattle.norprog_common.proofs.HeldLemmas.{rebuilt_exactly}
use Rattle.norprog_common.proofs.inputs.inputs_of.Goals as goal

pub returns : goal.returns
returns c =
    rebuilt_exactly c.args.request.now (held_in c.args.texts.now) c.as_slice.result.now _ _ c.as_slice-2.result.now _
    c.as_slice.ensures.value c.as_ref.ensures.value c.bytes_or_none.ensures c.as_slice-2.ensures.value
    (c.source_of.ensures ∙ ap (task_chip (origin_of c.args.request.now.chip)) c.as_slice-3.ensures.value)
