-- No bit that keeps a job out is set just where no fault is named.
use Rattle.std.proofs.Common.{◌≡◌, ℕ, ◌||◌, not, Bool, true, false, Some, None, refl}
use Rattle.std.specs.Prelude.{is_none, if◌then◌else◌}
use Rattle.nor_sfdp.specs.Bits.{is_set}
use Rattle.nor_job.specs.Status.{status_fault, is_protected}
use Rattle.nor_reader.specs.Status.{is_faulty}

first_named : (a b c d : Bool) → not (a || (b || (c || d))) ≡ is_none {T = ℕ} (if a then Some 1 else if b then Some 2 else if c then Some 3 else if d then Some 4 else None)
first_named true b c d = refl
first_named false true c d = refl
first_named false false true d = refl
first_named false false false true = refl
first_named false false false false = refl

pub none_named : (status : ℕ) → not (is_faulty status) ≡ is_none (status_fault (Some status))
unfolding status_fault
none_named status = first_named (is_set status 0) (is_set status 1) (is_set status 15) (is_protected status)
