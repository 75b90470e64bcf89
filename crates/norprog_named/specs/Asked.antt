-- What the values of a command line ask for, answered (this project's).
use Rattle.std.specs.Prelude.{◌≡◌, ◌&&◌, ℕ, false, is_some, List, [], Some, None, option_map, Result, Ok, Err}
use Rattle.std.specs.Io.KnownBytes.{Appends}
use Rattle.nor_base.specs.Device.{Cuts}
use Rattle.nor_job.specs.declared.fault.BuildFault.TheVariants as fault
use Rattle.norprog.specs.ChipText.{meaning_text}
use Rattle.norprog.specs.Report.{report_text}
use Rattle.norprog_check.specs.Line.{finding_text}
use Rattle.norprog_common.specs.Request as job
use Rattle.norprog_common.specs.Setup.{AsksSetup, is_setup}
use Rattle.norprog_common.specs.Told.{Fails, Output}
use Rattle.norprog_common.specs.declared.faults.Refusal.{Refusal}
use Rattle.norprog_common.specs.declared.faults.Refusal.TheVariants.{Build, Usage}
use Rattle.norprog_common.specs.declared.given.BuildArgs.{BuildArgs}
use Rattle.norprog_common.specs.declared.given.CheckArgs.{CheckArgs}
use Rattle.norprog_common.specs.declared.given.ChipArgs.{ChipArgs}
use Rattle.norprog_common.specs.declared.given.DrawArgs.{DrawArgs}
use Rattle.norprog_common.specs.declared.given.HexArgs.{HexArgs}
use Rattle.norprog_common.specs.declared.given.ListArgs.{ListArgs}
use Rattle.norprog_common.specs.declared.given.OutFile.{OutFile}
use Rattle.norprog_common.specs.declared.given.PlanArgs.{PlanArgs}
use Rattle.norprog_common.specs.declared.given.RunArgs.{RunArgs}
use Rattle.norprog_common.specs.declared.given.ScriptArgs.{ScriptArgs}
use Rattle.norprog_common.specs.declared.given.SetupArgs.{SetupArgs}
use Rattle.norprog_common.specs.declared.request.Request.{Request}
use Rattle.norprog_files.specs.Files.{Event}
use Rattle.norprog_named.specs.Build.{EndsBuild}
use Rattle.norprog_named.specs.Check.{EndsCheck, verdict_status}
use Rattle.norprog_named.specs.Hex.{EndsHex}
use Rattle.norprog_named.specs.HexRequest.{AsksFor, is_well_formed}
use Rattle.norprog_named.specs.Draw.{EndsDraw}
use Rattle.norprog_named.specs.List.{AsksList, EndsList, is_list}
use Rattle.norprog_named.specs.Plan.{AsksPlan, EndsPlan}
use Rattle.norprog_named.specs.Run.{EndsRun}
use Rattle.norprog_named.specs.Script.{EndsScript}
use Rattle.norprog_named.specs.Sfdp.{EndsSfdp}
use Rattle.norprog_script.specs.DrawRequest as draw
use Rattle.norprog_run.specs.Request as run
use Rattle.norprog_run.specs.Verdict.{status_of, verdict_line}
use Rattle.norprog_run.specs.declared.request.RunRequest.{RunRequest}
use Rattle.norprog_script.specs.Request as script
use Rattle.norprog_script.specs.Tally.{tally_text}

-- values that aren't of their forms (`Unasked`) are usage, and nothing is done with files; else the request that they spell ends so
pub data EndsAs {R A : Type 0} (usage : A) (Unasked : Type 0) (Asks : R → Type 0) (EndsSo : R → List Event → A → Type 0) : List Event → A → Type 0 where
  Unformed : Unasked → EndsAs usage Unasked Asks EndsSo [] usage
  Formed : (request : R) (log : List Event) (answer : A) → Asks request → EndsSo request log answer → EndsAs usage Unasked Asks EndsSo log answer

-- what work came to is printed, at its status; or a proper prefix, where standard output failed; of refused work nothing is
pub data PrintsAt {A : Type 0} (text : A → List ℕ) (status : A → ℕ) (out : Output) (Works : Result A Refusal → Type 0) : Result ℕ Refusal → Type 0 where
  Printed : (a : A) → Works (Ok a) → Appends out.before out.after (text a) → PrintsAt text status out Works (Ok (status a))
  CutOff : (a : A) → Works (Ok a) → Cuts out.before out.after (text a) → Fails out → PrintsAt text status out Works (Err (Build fault.Write))
  Unworked : (why : Refusal) → Works (Err why) → out.after ≡ out.before → PrintsAt text status out Works (Err why)

-- the same at status 0
abbrev pub Prints : {A : Type 0} → (A → List ℕ) → Output → (Result A Refusal → Type 0) → Result ℕ Refusal → Type 0
Prints text = PrintsAt text (λ a. 0)

-- how `hex` ends for the values of a command line
abbrev pub EndsHexAsked : Type 0 → HexArgs → List Event → Result ℕ Refusal → Type 0
EndsHexAsked Unread given = EndsAs (Err Usage) (is_well_formed given ≡ false) (AsksFor given) (EndsHex Unread)

-- the job and its output are those that the values spell
abbrev pub AsksBuild : BuildArgs → Request × OutFile → Type 0
AsksBuild given asked = job.AsksFor given.job asked.0 × (given.out ≡ Some asked.1)

-- how `build` does, whose report is printed
abbrev pub EndsBuildAsked : Type 0 → BuildArgs → Output → List Event → Result ℕ Refusal → Type 0
EndsBuildAsked Unread given out =
    EndsAs (Err Usage) (((job.is_well_formed given.job && is_some given.out) ≡ false) × (out.after ≡ out.before)) (AsksBuild given)
    (λ asked log. Prints report_text out (EndsBuild Unread asked.0 asked.1 log))

-- the job and the name of its script are those that the values spell
abbrev pub AsksCheck : CheckArgs → Request × List ℕ → Type 0
AsksCheck given asked = job.AsksFor given.job asked.0 × (option_map (λ t. t.now) given.script ≡ Some asked.1)

-- how `check` does, whose lines are printed, at the verdict's status; at usage nothing is
abbrev pub EndsCheckAsked : Type 0 → CheckArgs → Output → List Event → Result ℕ Refusal → Type 0
EndsCheckAsked Unread given out =
    EndsAs (Err Usage) (((job.is_well_formed given.job && is_some given.script) ≡ false) × (out.after ≡ out.before)) (AsksCheck given)
    (λ asked log. PrintsAt (finding_text given.witness) (λ found. verdict_status found.verdict) out
    (EndsCheck Unread asked.0 asked.1 log))

-- how `draw` does
abbrev pub EndsDrawAsked : DrawArgs → List Event → Result ℕ Refusal → Type 0
EndsDrawAsked given = EndsAs (Err Usage) (draw.is_well_formed given ≡ false) (draw.AsksFor given) EndsDraw

-- how `script` does, whose number of steps is printed
abbrev pub EndsScriptAsked : ScriptArgs → Output → List Event → Result ℕ Refusal → Type 0
EndsScriptAsked given out =
    EndsAs (Err Usage) ((script.is_well_formed given ≡ false) × (out.after ≡ out.before)) (script.AsksFor given) (λ r log. Prints tally_text out (EndsScript r log))

-- a chip of which nothing else is said
abbrev pub alone : ChipArgs → SetupArgs
alone chip = record { chip = chip; status = None; mode4 = false; quad = false; erased_only = false }

-- how `sfdp` does, whose lines are printed; at usage nothing is
abbrev pub EndsSfdpAsked : ChipArgs → Output → List Event → Result ℕ Refusal → Type 0
EndsSfdpAsked given out =
    EndsAs (Err Usage) ((is_setup (alone given) ≡ false) × (out.after ≡ out.before)) (AsksSetup (alone given))
    (λ setup log. Prints meaning_text out (EndsSfdp setup log))

-- how `list` does; at usage nothing is printed
abbrev pub EndsListAsked : Type 0 → ListArgs → Output → List Event → Result ℕ Refusal → Type 0
EndsListAsked Unread given out = EndsAs (Err Usage) ((is_list given ≡ false) × (out.after ≡ out.before)) (AsksList given) (λ request. EndsList Unread request out)

-- how `run` does, whose verdict's line is printed, and whose status it is. Values that aren't of their forms are usage, and memory may run
-- out as they are read: then nothing is done with files, and nothing is printed
pub data EndsRunAsked (Unread : Type 0) (given : RunArgs) (out : Output) : List Event → Result ℕ Refusal → Type 0 where
  Unspelled : (why : Refusal) → run.RefusesGiven given why → out.after ≡ out.before → EndsRunAsked Unread given out [] (Err why)
  Spelled : (request : RunRequest) (log : List Event) (answer : Result ℕ Refusal) → run.AsksFor given request
      → PrintsAt verdict_line status_of out (EndsRun Unread request log) answer → EndsRunAsked Unread given out log answer

-- how `plan` does
abbrev pub EndsPlanAsked : Type 0 → PlanArgs → Output → List Event → Result ℕ Refusal → Type 0
EndsPlanAsked Unread given out =
    EndsAs (Err Usage) ((job.is_well_formed given.job ≡ false) × (out.after ≡ out.before)) (AsksPlan given) (λ request. EndsPlan Unread request out)
