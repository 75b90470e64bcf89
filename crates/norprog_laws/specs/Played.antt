-- What a script that was built does on each chip, read back and played (this project's).
use Rattle.std.specs.Prelude.{◌≡◌, ℕ, List, Option, Result, Ok, Err}
use Rattle.nor_base.specs.declared.step.Step.{Step}
use Rattle.nor_base.specs.declared.wrong.Wrong.TheVariants as wrong
use Rattle.nor_base.specs.Chip.{Setting, Chip, IsChipOf, ready}
use Rattle.nor_base.specs.Device.{Ahead}
use Rattle.nor_base.specs.Run.{Stop}
use Rattle.nor_base.specs.Script.{IsScript}
use Rattle.nor_job.specs.Status.{start_of}
use Rattle.nor_job.specs.Task.{Task}
use Rattle.nor_base.specs.Wire.{wire}
use Rattle.nor_play.specs.Play.{play}
use Rattle.nor_job.specs.Wanted.{wanted}
use Rattle.norprog.specs.Build.{WroteScript}

-- a play ends with this array, or a poll runs out of turns
abbrev pub EndsOrWaits : List ℕ → Result Chip Stop → Type 0
EndsOrWaits goal (Ok chip) = chip.array ≡ goal
EndsOrWaits goal (Err stop) = stop.why ≡ wrong.PollNever

-- what a play of these steps comes to, on each chip of a build's inputs that has the content that the build read
abbrev pub PlaysOnEvery : (t : Task) (len : ℕ) (before after : Ahead) (held_before held_after : Option (List ℕ))
    → WroteScript t len (wire held_before before) (wire held_after after) → List Step → Type 0
PlaysOnEvery t len before after held_before held_after wrote steps = (s : Setting) (limit : ℕ) → IsChipOf wrote.m (start_of t) s
    → EndsOrWaits (wanted t wrote.image wrote.regions wrote.content) (play s limit (ready s wrote.content) steps)

-- the steps that a built text spells are the built ones, and with any limit on polls they play well
abbrev pub BuiltPlays : Type 0
BuiltPlays = (t : Task) (len : ℕ) (before after : Ahead) (held_before held_after : Option (List ℕ))
    (wrote : WroteScript t len (wire held_before before) (wire held_after after)) (steps : List Step) → IsScript wrote.text steps
    → (steps ≡ wrote.steps) × PlaysOnEvery t len before after held_before held_after wrote steps
