-- Of what a build wrote, a check says yes (this project's).
use Rattle.std.specs.Prelude.{◌≡◌, ℕ, ⊤, List, Option}
use Rattle.nor_base.specs.declared.step.Step.{Step}
use Rattle.nor_base.specs.Device.{Ahead, Unknown, Finite, Endless}
use Rattle.nor_base.specs.Script.{IsScript}
use Rattle.nor_check.specs.declared.verdict.Verdict.{Verdict}
use Rattle.nor_check.specs.declared.verdict.Verdict.TheVariants.{Yes}
use Rattle.nor_check.specs.Outcome.{trial}
use Rattle.nor_check.specs.Worst.{IsWorst}
use Rattle.nor_job.specs.Status.{start_of}
use Rattle.nor_job.specs.Task.{Task}
use Rattle.nor_job.specs.Wanted.{wanted}
use Rattle.nor_base.specs.Wire.{wire}
use Rattle.norprog.specs.Build.{WroteScript}
use Rattle.norprog_check.specs.declared.finding.Finding.{Finding}
use Rattle.norprog_check.specs.Checked.{IsChecked, checking}

-- whatever steps the text that was appended spells, the worst verdict on them is Yes
abbrev pub BuiltIsRight : Type 0
BuiltIsRight = (t : Task) (len : ℕ) (before after : Ahead) (x y : Option (List ℕ))
    → (wrote : WroteScript t len (wire x before) (wire y after)) → (steps : List Step) (v : Verdict) → IsScript wrote.text steps
    → IsWorst (trial wrote.m (start_of t) wrote.content (wanted t wrote.image wrote.regions wrote.content) steps) v → v ≡ Yes

-- the reader tells its bytes
abbrev pub Tells : Ahead → Type 0
Tells Unknown = ⊥
Tells (Finite bytes) = ⊤
Tells (Endless byte_at) = ⊤

-- a check of that text, for the same inputs and with the same bytes ahead, finds Yes
abbrev pub BuiltIsChecked : Type 0
BuiltIsChecked = (t : Task) (len : ℕ) (before after rest : Ahead) (x y : Option (List ℕ)) (found : Finding)
    → (wrote : WroteScript t len (wire x before) (wire y after)) → Tells before → IsChecked (checking t len before rest) wrote.text found → found.verdict ≡ Yes
