-- How `draw` ends (this project's).
use Rattle.std.specs.Prelude.{ℕ, List, [], ◌∷◌, Result, Ok, Err}
use Rattle.nor_base.specs.Script.{IsScript}
use Rattle.nor_base.specs.declared.step.Step.{Step}
use Rattle.nor_job.specs.declared.fault.BuildFault.TheVariants as fault
use Rattle.nor_waves.specs.Waves.{waves}
use Rattle.norprog_common.specs.declared.faults.FileName.TheVariants as file
use Rattle.norprog_common.specs.declared.faults.Refusal.{Refusal}
use Rattle.norprog_common.specs.declared.faults.Refusal.TheVariants.{Build}
use Rattle.norprog_script.specs.Drawn.{IsThere, RefusesSteps, part}
use Rattle.norprog_script.specs.declared.draw_request.DrawRequest.{DrawRequest}
use Rattle.norprog_files.specs.Files.{Event, Denied, Denies, Given, Loses, Sends}
use Rattle.norprog_files.specs.declared.replaced.OutKind.TheVariants as kind

-- how `draw` ends, and what was done with files by then
pub data EndsDraw (r : DrawRequest) : List Event → Result ℕ Refusal → Type 0 where
  -- the output was sent the waveform of the steps asked for of the script that the file has
  Drawn : (text : List ℕ) (steps : List Step) (log : List Event) → IsScript text steps → IsThere r.from steps
      → Sends r.out kind.Waveform (waves (part r.from r.count steps)) log → EndsDraw r (Given r.script.now text ∷ log) (Ok 0)
  -- the script can't be read
  NoScript : (why : Refusal) → Denies file.Script why → EndsDraw r (Denied r.script.now ∷ []) (Err why)
  -- it is none, or lacks the first step: no output is made
  Refused : (text : List ℕ) (why : Refusal) → RefusesSteps text r.from why → EndsDraw r (Given r.script.now text ∷ []) (Err why)
  -- the output can't be made
  NoOutput : (text : List ℕ) (why : Refusal) → Denies file.Out why → EndsDraw r (Given r.script.now text ∷ Denied r.out.path.now ∷ []) (Err why)
  -- some of the waveform hasn't gone out
  Unsent : (text waveform : List ℕ) (log : List Event) → Loses r.out kind.Waveform waveform log → EndsDraw r (Given r.script.now text ∷ log) (Err (Build fault.Write))
