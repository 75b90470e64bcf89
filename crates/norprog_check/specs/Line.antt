-- The lines of what a check finds (this project's).
use Rattle.std.specs.Prelude.{ℕ, Bool, true, false, ◌+◌, nat_lt, if◌then◌else◌, List, [], ◌++◌, Option, Some, None, codes, decimal}
use Rattle.nor_base.specs.Script.{closed}
use Rattle.nor_check.specs.declared.verdict.Verdict.{Verdict}
use Rattle.nor_check.specs.declared.verdict.Verdict.TheVariants.{Yes, No}
use Rattle.nor_check.specs.declared.verdict.Why.{Why}
use Rattle.nor_check.specs.declared.verdict.Why.TheVariants as why
use Rattle.nor_script.specs.Hexadecimal.{hex_number}
use Rattle.norprog_check.specs.declared.finding.Finding.{Finding}
use Rattle.norprog_check.specs.declared.finding.ShowingChip.{ShowingChip}
use Rattle.norprog_common.specs.Wrongs.{wrong_number}

-- `wrong N`, or `differs AAAAAAAA`
abbrev pub why_text : Why → List ℕ
why_text (why.Wrong cause) = codes "wrong " ++ decimal (wrong_number cause)
why_text (why.Differs address) = codes "differs " ++ hex_number address

-- `yes`, or `no at K` and why
unfoldable pub verdict_text : Verdict → List ℕ
verdict_text Yes = closed (codes "yes")
verdict_text (No step cause) = closed (codes "no at " ++ (decimal step ++ (codes " " ++ why_text cause)))

-- an option with its number in decimal, where there is one
abbrev pub number_text : List ℕ → Option ℕ → List ℕ
number_text words None = []
number_text words (Some number) = words ++ decimal number

abbrev pub keep_text : Bool → List ℕ
keep_text true = codes " --keep"
keep_text false = []

-- the limit of a play whose polls end after so many status reads and one more: none where the default one is enough
abbrev pub limit_beside : ℕ → Option ℕ
limit_beside reads = if nat_lt reads 1000000 then None else Some (reads + 1)

-- `shown by norprog run --each-busy N`, and then what else `run` needs to be told of this chip
unfoldable pub chip_text : ShowingChip → List ℕ
chip_text chip = closed (
    codes "shown by norprog run --each-busy " ++ (decimal chip.each_busy ++ (keep_text chip.keep ++ (number_text (codes " --page ") chip.page
    ++ number_text (codes " --limit ") (limit_beside chip.each_busy))))
    )

-- the line of a chip, where it is asked for and there is one
abbrev pub shown_text : Bool → Option ShowingChip → List ℕ
shown_text false chip = []
shown_text true None = []
shown_text true (Some chip) = chip_text chip

-- the line of the verdict, and behind it that of the chip
abbrev pub finding_text : Bool → Finding → List ℕ
finding_text witness found = verdict_text found.verdict ++ shown_text witness found.chip
