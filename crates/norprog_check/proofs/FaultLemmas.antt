-- Faults: what `?` hands on, and what each says.
use Rattle.std.proofs.Common.{◌≡◌, ◌∙◌, ℕ, List, ap, refl, sym, subst, ◌≤◌, length}
use Rattle.nor_base.specs.Device.{Ahead, Gives}
use Rattle.nor_job.specs.declared.fault.BuildFault.{BuildFault}
use Rattle.nor_job.specs.declared.fault.BuildFault.TheVariants as fault
use Rattle.nor_job.specs.Written.{of_reader}
use Rattle.nor_script.specs.declared.fault.ScriptFault.{ScriptFault}
use Rattle.nor_script.specs.declared.fault.ScriptFault.TheVariants as script
use Rattle.nor_script.specs.Faults.{Refuses}
use Rattle.nor_script.specs.Laws.{ScriptsAreFaultless}
use Rattle.nor_script.specs.Stream.{IsSpelled}
use Rattle.norprog_check.specs.declared.fault.CheckStop.{CheckStop}
use Rattle.norprog_check.specs.declared.fault.CheckStop.TheVariants.{Build, Script}
use Rattle.norprog_check.specs.Checked.{IsFaultIn, IsLateFault, IsOfContent, failures_of, AreTaken, Checking, StopsCheck}
use Rattle.norprog_check.specs.Content.{ReadCause}
use Rattle.norprog_check.specs.Lifted.{lifted_script}

pub memory_is_late : (why : BuildFault) → why ≡ fault.Memory → IsLateFault why
memory_is_late why is = subst IsLateFault (sym is) tt

pub cause_is_late : (len : ℕ) (part : List ℕ) (after : Ahead) (why : BuildFault) → ReadCause len part after why → IsLateFault why
cause_is_late len part after fault.ContentShort cause = tt
cause_is_late len part after fault.Read cause = tt
cause_is_late len part after fault.Memory cause = tt
cause_is_late len part after other cause = absurd cause

-- a text in memory is what its device had ahead
pub told_in : {P : List ℕ → Type 0} (bytes text : List ℕ) → bytes ≡ text → (told : List ℕ) × (told ≡ bytes) × P told → P text
told_in {P} bytes text is had = subst P (had.1 ∙ is) had.2

-- its first fault, or memory was refused
pub fault_in : (text : List ℕ) (why : ScriptFault) → Refuses text why → IsFaultIn text (lifted_script why)
fault_in text script.Memory refuses = refl
fault_in text (script.Header n) refuses = refuses
fault_in text (script.BadLine n) refuses = refuses
fault_in text (script.BadSymbol n) refuses = refuses
fault_in text (script.BadCount n) refuses = refuses
fault_in text (script.NoEnd n) refuses = refuses
fault_in text (script.AfterEnd n) refuses = refuses

pub in_content : (text : List ℕ) (why : CheckStop) → ScriptsAreFaultless → IsSpelled text → IsFaultIn text why → IsOfContent why
in_content text (Build why) law spelled is = memory_is_late why is
in_content text (Script why) law spelled is = absurd (law text spelled.steps why spelled.script is)

pub in_fails_none : (text : List ℕ) (why : CheckStop) → IsFaultIn text why → failures_of why ≡ 0
in_fails_none text (Build why) is = ap of_reader is
in_fails_none text (Script why) is = refl

-- after the content was read only memory stops a check of a text that spells steps
pub stops_check : (c : Checking) (text part : List ℕ) (why : CheckStop) → ScriptsAreFaultless → IsSpelled text → AreTaken c.task c.len → length part ≤ c.len
    → Gives c.content part c.left → IsFaultIn text why → StopsCheck c text why
stops_check c text part (Build why) law spelled taken within given is = record {
  taken = taken;
  steps = spelled.steps;
  script = spelled.script;
  stops = record { part = part; within = within; given = given; cause = subst (ReadCause c.len part c.left) (sym is) tt };
}
stops_check c text part (Script why) law spelled taken within given is = absurd (law text spelled.steps why spelled.script is)
