-- The lines that tell what a build did (this project's).
use Rattle.std.specs.Prelude.{ℕ, List, ◌++◌, codes, decimal}
use Rattle.nor_base.specs.declared.meaning.Strategy.{Strategy}
use Rattle.nor_base.specs.declared.meaning.Strategy.TheVariants.{S1, S2, S3, S4, S5}
use Rattle.nor_base.specs.Script.{closed}
use Rattle.norprog.specs.declared.report.Report.{Report}

abbrev pub strategy_name : Strategy → List ℕ
strategy_name S1 = codes "S1"
strategy_name S2 = codes "S2"
strategy_name S3 = codes "S3"
strategy_name S4 = codes "S4"
strategy_name S5 = codes "S5"

-- a name, a blank, and a number in decimal
abbrev pub count_line : List ℕ → ℕ → List ℕ
count_line name number = closed (name ++ (codes " " ++ decimal number))

-- the six lines, each closed by LF
unfoldable pub report_text : Report → List ℕ
report_text r =
    closed (codes "strategy " ++ strategy_name r.strategy)
    ++ (count_line (codes "steps") r.steps
    ++ (count_line (codes "erases") r.erases
    ++ (count_line (codes "erased") r.erased
    ++ (count_line (codes "programs") r.programs
    ++ count_line (codes "ignored") r.ignored))))
