-- A script that a reader gives is played as it comes; or why it isn't (this project's).
use Rattle.std.specs.Prelude.{◌≡◌, ⊤, ℕ, ◌+◌, List, Option, Result, Ok, Err}
use Rattle.nor_base.specs.declared.step.Step.{Step}
use Rattle.nor_base.specs.Chip.{Chip}
use Rattle.nor_base.specs.Device.{Ahead, raised}
use Rattle.nor_base.specs.Script.{IsScript}
use Rattle.nor_job.specs.declared.fault.BuildFault.TheVariants as fault
use Rattle.nor_script.specs.declared.fault.ReadFault.{ReadFault}
use Rattle.nor_script.specs.declared.fault.ReadFault.TheVariants as read
use Rattle.nor_script.specs.Faults.{IsFault}
use Rattle.nor_script.specs.Stream.{HadText}
use Rattle.norprog_common.specs.declared.faults.FileName.TheVariants as file
use Rattle.norprog_common.specs.declared.faults.Refusal.{Refusal}
use Rattle.norprog_common.specs.declared.faults.Refusal.TheVariants.{File, Build, Script}
use Rattle.norprog_common.specs.Lines.{script_refusal}
use Rattle.norprog_common.specs.Reading.{GivesSome}
use Rattle.norprog_run.specs.declared.verdict.Verdict.{Verdict}
use Rattle.nor_job.specs.Written.{Passed}
use Rattle.norprog_run.specs.Play.{EndsSo, Play, Run, WasPlayed}
use Rattle.norprog_run.specs.Refusals.{HasSizedChip, StopsPlaying, RefusesPaged, RefusesPlay}

-- this text was played with this verdict, and what the chip holds then was put
abbrev pub IsPlayed : Play → Verdict → List ℕ → Type 0
IsPlayed p verdict text = WasPlayed p text verdict

-- why the text that a reader has isn't played
pub data Unplayed (p : Play) (script rest : Ahead) : Refusal → Type 0 where
  -- there is no such chip: nothing is read
  NoChip : (why : Refusal) → RefusesPaged p.chip p.bench.page p.len why → rest ≡ script → p.rest ≡ p.content → Unplayed p script rest why
  -- the text, which was read to its end or to its first fault, or the content, or the output is at fault
  Refused : (why : Refusal) → HadText script rest (λ text. RefusesPlay p text why)
      → Unplayed p script rest why
  -- a reading of the script failed
  BadReading : HasSizedChip p → GivesSome script rest → Unplayed p script rest (File file.Script)
  -- memory ran out
  NoMemory : HasSizedChip p → Unplayed p script rest (Build fault.Memory)

-- a refusal that blames the script's reader, the content's or the writer: that has failed
abbrev pub Blames : Type 0 → Type 0 → Type 0 → Refusal → Type 0
Blames OfScript OfContent OfOutput (File file.Script) = OfScript
Blames OfScript OfContent OfOutput (Build fault.Read) = OfContent
Blames OfScript OfContent OfOutput (Build fault.Write) = OfOutput
Blames OfScript OfContent OfOutput other = ⊤

-- the text spells steps whose bounded run ends so, and leaves this chip
abbrev pub PlaysText : Run → Verdict → Chip → List ℕ → Type 0
PlaysText r verdict d text = (steps : List Step) × IsScript text steps × EndsSo r steps verdict d

-- a fault of a reading as a refusal
abbrev pub refusal_of : ReadFault → Refusal
refusal_of (read.Script why) = script_refusal why
refusal_of (read.Device failed) = File file.Script

-- why a reading is no script: its first fault; or the device failed after it gave the beginning of what it had ahead, or memory was
-- refused
abbrev pub RefusesScript : Ahead → Ahead → Refusal → Type 0
RefusesScript before after (Script why) = HadText before after (λ text. IsFault text why)
RefusesScript before after (File file.Script) = GivesSome before after
RefusesScript before after (Build fault.Memory) = ⊤
RefusesScript before after other = ⊥

-- why the text of a device isn't played on a chip: it is no script; or the writer took a part of what the chip held after it
abbrev pub StopsText : Passed → Run → Refusal → Type 0
StopsText by r (Build fault.Write) =
    HadText by.ahead by.rest (λ text. (steps : List Step) × IsScript text steps × StopsPlaying r steps by.begun by.ended (Build fault.Write))
StopsText by r why = RefusesScript by.ahead by.rest why

-- the count of failures of the script's device rises by one exactly where its file is told
abbrev pub of_script : Refusal → ℕ
of_script (File file.Script) = 1
of_script other = 0

abbrev pub CountsOne : {T : Type 0} → ℕ → ℕ → Result T Refusal → Type 0
CountsOne before after (Ok x) = after ≡ before
CountsOne before after (Err why) = after ≡ raised before (of_script why)
