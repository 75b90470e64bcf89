use Rattle.std.proofs.Common.{◌≡◌, ◌≤◌, ◌<◌, ◌-◌, ℕ, false, length}
use Rattle.nor_base.specs.Need.{is_due}
use Rattle.nor_erase.proofs.bytes.skip_quiet.Given as goal

-- nothing before is due
abbrev pub invariant-loop-i : goal.invariant-loop-i
invariant-loop-i l =
    (l.start ≤ l.i) × (l.start ≤ length l.have → l.i ≤ length l.have) × ((k : ℕ) → l.start ≤ k → k < l.i → is_due l.meaning l.have l.want k ≡ false)

abbrev pub decreases-loop-i : goal.decreases-loop-i
decreases-loop-i l = length l.have - l.i
