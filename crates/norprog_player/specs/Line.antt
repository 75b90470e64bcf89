-- The line that tells how a script ends on a device (this project's).
use Rattle.std.specs.Prelude.{ℕ, Bool, true, false, List, ◌++◌, codes, decimal}
use Rattle.nor_base.specs.Script.{closed}
use Rattle.nor_serprog.specs.declared.fault.Fault.{Fault}
use Rattle.nor_base.specs.Script.{hex_pair}
use Rattle.nor_reader.specs.declared.difference.Mismatch.{Mismatch}
use Rattle.nor_reader.specs.declared.difference.Mismatch.TheVariants as mismatch
use Rattle.norprog_player.specs.declared.ending.Unlike.{Unlike as Unlikeness}
use Rattle.norprog_player.specs.declared.ending.Unlike.TheVariants as unlike
use Rattle.nor_check.specs.declared.verdict.Verdict.TheVariants.{No as Says}
use Rattle.norprog_check.specs.Line.{verdict_text}
use Rattle.norprog_common.specs.Wrongs.{wrong_number}
use Rattle.norprog_device.specs.Line.{fault_word}
use Rattle.norprog_device.specs.FailureLine.{failure_line, wrong_line}
use Rattle.norprog_device.specs.Shown.{other_line, status_line}
use Rattle.nor_base.specs.declared.meaning.Part.TheVariants.{Generic, W25q256jv}
use Rattle.norprog_player.specs.declared.ending.Ending.{Ending}
use Rattle.norprog_player.specs.declared.ending.Ending.TheVariants.{Done, Wrong, No, Unlike, Failed}

-- `unlike` and the word of an exchange, and LF
abbrev pub exchange_line : Fault → List ℕ
exchange_line why = closed (codes "unlike " ++ fault_word why)

abbrev pub mismatch_line : List ℕ → List ℕ → Mismatch → List ℕ
mismatch_line front last (mismatch.Exchange why) = exchange_line why
mismatch_line front last (mismatch.Differs d) = other_line front last d

-- why the chip isn't known to be the one that is expected
abbrev pub unlike_line : Unlikeness → List ℕ
unlike_line unlike.Busy = codes "unlike busy\n"
unlike_line (unlike.Asking why) = exchange_line why
unlike_line (unlike.Status status) = status_line (codes "unlike status ") Generic status
unlike_line (unlike.Registers status) = status_line (codes "unlike status ") W25q256jv status
unlike_line (unlike.Tables why) = mismatch_line (codes "unlike tables at ") (codes " file ") why
unlike_line (unlike.Moved value) = codes "unlike register " ++ (hex_pair value ++ codes "\n")
unlike_line (unlike.Content why) = mismatch_line (codes "unlike differs at ") (codes " dump ") why

-- `ok N`, and `blank` on a line before it where the content says nothing of which chip it is
abbrev pub done_line : ℕ → Bool → List ℕ
done_line transactions true = codes "blank\nok " ++ (decimal transactions ++ codes "\n")
done_line transactions false = codes "ok " ++ (decimal transactions ++ codes "\n")

-- so, or a check's line, or one of these
abbrev pub ending_line : Ending → List ℕ
ending_line (Done transactions blank) = done_line transactions blank
ending_line (Wrong step why) = wrong_line (wrong_number why) step
ending_line (No step why) = verdict_text (Says step why)
ending_line (Unlike why) = unlike_line why
ending_line (Failed step failed) = failure_line step failed
