use Rattle.std.proofs.Common.{◌≡◌, ◌≤◌, ◌<◌, ℕ, ◌-◌, ◌+◌, false}
use Rattle.nor_base.specs.Need.{is_due}
use Rattle.nor_erase.proofs.bytes.next_due.Given as goal

-- nothing before is due
abbrev pub invariant-loop-i : goal.invariant-loop-i
invariant-loop-i l = (x : ℕ) → l.from ≤ x → x < l.at + l.i → is_due l.meaning l.have l.want (x - l.at) ≡ false
