use Rattle.std.proofs.Common.{◌≡◌, ◌≤◌, ◌<◌, ℕ, ◌-◌, ◌+◌, false}
use Rattle.nor_base.specs.Need.{differs}
use Rattle.nor_erase.proofs.planner.first_beyond.Given as goal

-- nothing before differs
abbrev pub invariant-loop-i : goal.invariant-loop-i
invariant-loop-i l = (x : ℕ) → l.at ≤ x → x < l.at + l.i → differs l.have l.want (x - l.at) ≡ false
