-- The line that reports why a step isn't done by a device (this project's).
use Rattle.std.specs.Prelude.{ℕ, List, ◌++◌, codes, decimal}
use Rattle.nor_base.specs.declared.wrong.Wrong.TheVariants.{PollNever}
use Rattle.nor_base.specs.Script.{closed, hex_pair}
use Rattle.norprog_common.specs.Wrongs.{wrong_number}
use Rattle.norprog_device.specs.Line.{fault_word}
use Rattle.norprog_device.specs.Shown.{other_line}
use Rattle.norprog_device.specs.declared.failure.Failure.{Failure}
use Rattle.norprog_device.specs.declared.failure.Failure.TheVariants as failure

-- `wrong N at K`, and LF
abbrev pub wrong_line : ℕ → ℕ → List ℕ
wrong_line number step = closed (codes "wrong " ++ (decimal number ++ (codes " at " ++ decimal step)))

-- `failed at K WHY`, and LF
abbrev pub failed_line : ℕ → List ℕ → List ℕ
failed_line step why = closed (codes "failed at " ++ (decimal step ++ (codes " " ++ why)))

-- why a step isn't done; a device that stays busy is a poll that never ends
abbrev pub failure_line : ℕ → Failure → List ℕ
failure_line step (failure.Exchange why) = failed_line step (fault_word why)
failure_line step failure.Busy = wrong_line (wrong_number PollNever) step
failure_line step failure.Carried = failed_line step (codes "carried")
failure_line step failure.Memory = failed_line step (codes "memory")
failure_line step (failure.Differs d) = codes "failed at " ++ (decimal step ++ other_line (codes " differs at ") (codes " want ") d)
failure_line step (failure.Gives chip want) =
    codes "failed at " ++ (decimal step ++ (codes " differs chip " ++ (hex_pair chip ++ (codes " want " ++ (hex_pair want ++ codes "\n")))))
