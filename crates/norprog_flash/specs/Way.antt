-- What is printed before the first step: the plan, and how to go on with work that stops on the way (this project's).
use Rattle.std.specs.Prelude.{ℕ, zero, suc, Bool, true, false, ◌||◌, not, nat_eq, count_by, decimal, List, [], ◌++◌, codes}
use Rattle.norprog.specs.Report.{report_text}
use Rattle.norprog.specs.declared.report.Report.{Report}
use Rattle.norprog_common.specs.declared.given.FlashArgs.{FlashArgs}
use Rattle.norprog_flash.specs.declared.job.Job.{Job}
use Rattle.norprog_flash.specs.State.{way_on}
use Rattle.norprog_flash.specs.Task.{works}
use Rattle.norprog_read.specs.declared.asked.Reading.{Reading}
use Rattle.norprog_read.specs.Line.{note_line}
use Rattle.norprog_flash.specs.Work.{Plan}

-- what comes before the command
abbrev pub way_front : List ℕ
way_front = codes "if this stops on the way: switch the chip's power off and on, and go on with: "

-- the line
abbrev pub way_line : FlashArgs → List ℕ
way_line texts = way_front ++ (way_on texts ++ codes "\n")

-- what is printed of how to go on before so many steps; nothing where there are none, and where they aren't to be done
abbrev pub way_text : Bool → ℕ → FlashArgs → List ℕ
way_text false steps texts = []
way_text true zero texts = []
way_text true (suc more) texts = way_line texts

-- and before it the size that the identification says, where that is to be noted
abbrev pub last_text : Job → Reading → ℕ → List ℕ
last_text job r steps = note_line r.note ++ way_text (works job.aim) steps job.texts.now

-- the whole plan is printed where that is asked for, and where only the plan is wanted
abbrev pub is_listed : Job → Bool
is_listed job = not (works job.aim) || job.texts.now.list

-- the lines of a plan, or how many they are
abbrev pub lines_text : Bool → List ℕ → List ℕ
lines_text true lines = lines
lines_text false lines = codes "lines " ++ (decimal (count_by (nat_eq 10) lines) ++ codes "\n")

-- what is printed of a plan: its lines, or their number, and its report
abbrev pub plan_text : Job → List ℕ → Report → List ℕ
plan_text job lines report = lines_text (is_listed job) lines ++ report_text report

-- and before the first step: that, and then how to go on
abbrev pub work_text : Job → Reading → Plan → List ℕ
work_text job r p = plan_text job p.lines p.report ++ last_text job r p.report.steps
