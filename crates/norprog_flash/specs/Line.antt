-- What is written of how work on a chip ends (this project's).
use Rattle.std.specs.Prelude.{ℕ, Bool, false, if◌then◌else◌, List, [], ◌++◌, codes, decimal}
use Rattle.nor_base.specs.declared.meaning.Part.{Part}
use Rattle.nor_base.specs.Script.{hex_pair}
use Rattle.nor_script.specs.Hexadecimal.{hex_number}
use Rattle.norprog_device.specs.FailureBlame.{is_sent}
use Rattle.norprog_device.specs.FailureLine.{failure_line}
use Rattle.norprog_device.specs.Shown.{status_line}
use Rattle.norprog_flash.specs.declared.ending.Ending.{Ending}
use Rattle.norprog_flash.specs.declared.ending.Ending.TheVariants.{Planned, Compared, Done, Failed}
use Rattle.norprog_flash.specs.declared.compared.Comparison.{Comparison}
use Rattle.norprog_flash.specs.declared.compared.Comparison.TheVariants.{Same, Differs}

-- `same N`; or the lowest address that differs, with the byte of either side, and how many do
abbrev pub comparison_line : Comparison → List ℕ
comparison_line (Same bytes) = codes "same " ++ (decimal bytes ++ codes "\n")
comparison_line (Differs at chip want bytes) =
    codes "differs at " ++ (hex_number at ++ (codes " chip " ++ (hex_pair chip ++ (codes " want " ++ (hex_pair want ++ (codes "\ndiffering "
    ++ (decimal bytes ++ codes "\n")))))))

-- the comparison, `ok N`, why a step wasn't done, or nothing of a plan
abbrev pub ending_line : Ending → List ℕ
ending_line Planned = []
ending_line (Compared comparison) = comparison_line comparison
ending_line (Done transactions) = codes "ok " ++ (decimal transactions ++ codes "\n")
ending_line (Failed step why) = failure_line step why

-- a status by which a chip can't take the work
abbrev pub closed_line : Part → ℕ → List ℕ
closed_line = status_line (codes "unlike status ")

-- steps were sent, and the chip isn't known to hold what they leave
abbrev pub is_partial : Ending → Bool
is_partial (Failed step why) = is_sent step why
is_partial other = false

-- 0 where all that was wanted was done or is so, 3 where the chip may hold a part of it, else 1
abbrev pub status_of : Ending → ℕ
status_of Planned = 0
status_of (Compared (Same bytes)) = 0
status_of (Compared (Differs at chip want bytes)) = 1
status_of (Done transactions) = 0
status_of (Failed step why) = if is_sent step why then 3 else 1
