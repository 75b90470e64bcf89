-- Each turn of the loop makes one change.
use Rattle.std.proofs.Common.{ap, get_or, ◌∙◌}
use Rattle.test_samples.proofs.PatchLemmas.{one_more, past}
use Rattle.test_samples.proofs.sfdp.patched.Goals as goal
use Rattle.test_samples.proofs.sfdp.patched.Goals.{in-Some, in_default}

pub loop-at-preserved : goal.loop-at-preserved
loop-at-preserved c =
    let patch = get_or c.args.patches.now c.loop-at.at-index (0, 0) in
    let next = one_more c.loop-at.changed.items c.match-get_mut.changed.items c.args.patches.now c.loop-at.at-index (0, 0) c.loop-at-test.true in
    elim c.match-get_mut.branch [
      | in-Some w ↦ next (ap (λ changed. changed.items) w.changed-is) ∙ c.loop-at.invariant
      | in_default w ↦
          next (ap (λ changed. changed.items) w.changed-is ∙ past c.loop-at.changed.items c.loop-at.changed.len patch.0 patch.1 c.loop-at.changed.ok.0 w.in_default.ensures.variant) ∙ c.loop-at.invariant
    ]
