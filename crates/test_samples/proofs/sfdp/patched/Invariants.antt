use Rattle.std.proofs.Common.{◌≡◌, drop}
use Rattle.test_samples.specs.Patches.{patched}
use Rattle.test_samples.proofs.sfdp.patched.Given as goal

abbrev pub invariant-loop-at : goal.invariant-loop-at
invariant-loop-at l = patched l.changed.items (drop l.at-index l.patches) ≡ patched l.bytes l.patches
