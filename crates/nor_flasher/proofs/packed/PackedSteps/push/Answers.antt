-- One step more.
use Rattle.nor_script.specs.View.{step_of}
use Rattle.nor_flasher.proofs.PackedLemmas.{pushed}
use Rattle.nor_flasher.proofs.packed.PackedSteps.push.Goals as goal

pub returns-else-is_err-clause-kept : goal.returns-else-is_err-clause-kept
returns-else-is_err-clause-kept c =
    pushed c.push_kept-pushed.result c.self.inside.bytes.items c.push_kept-pushed.new.bytes.items c.self.inside.marks.items c.push_kept-pushed.new.marks.items c.args.self.now
    (step_of c.args.step) c.self.invariant c.self.view_is c.push_kept-pushed.ensures.kept
