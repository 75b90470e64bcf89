-- What a command writes to, and what is told there of its end (this project's).
use Rattle.std.specs.Prelude.{◌≡◌, ◌⊎◌, ◌++◌, ℕ, max, List, Option, Result, Ok, Err}
use Rattle.std.specs.Io.KnownBytes.{Appends}
use Rattle.nor_base.specs.Device.{Cuts, one_more}
use Rattle.nor_job.specs.declared.fault.BuildFault.TheVariants.{Write}
use Rattle.norprog_common.specs.declared.faults.Refusal.{Refusal}
use Rattle.norprog_common.specs.declared.faults.Refusal.TheVariants.{Build}
use Rattle.norprog_common.specs.Lines.{printed, status_after}

-- what is written to: what it held before and holds after, where it says so, and how often it had failed before and after
pub record Output : Type 0 where
  pub before : Option (List ℕ)
  pub after : Option (List ℕ)
  pub failures : ℕ
  pub failed : ℕ

abbrev pub between : Option (List ℕ) → Option (List ℕ) → ℕ → ℕ → Output
between before after failures failed = record { before = before; after = after; failures = failures; failed = failed }

-- a writer from this state to that one
abbrev pub output : {W : Type 0} → (W → Option (List ℕ)) → (W → ℕ) → W → W → Output
output held count old new = between (held old) (held new) (count old) (count new)

-- it failed meanwhile; it didn't
abbrev pub Fails : Output → Type 0
Fails out = out.failed ≡ one_more out.failures

abbrev pub Works : Output → Type 0
Works out = out.failed ≡ out.failures

-- nothing was written to it
abbrev pub IsQuiet : Output → Type 0
IsQuiet out = (out.after ≡ out.before) × Works out

-- a text was written to it, or it failed
abbrev pub Tells : Output → List ℕ → Type 0
Tells err text = Appends err.before err.after text ⊎ Fails err

-- the status of a command that is done, of which nothing is told; or that of its refusal, which is told
abbrev pub Ends : Output → ℕ → Result ℕ Refusal → Type 0
Ends err status (Ok own) = (status ≡ own) × IsQuiet err
Ends err status (Err why) = (status ≡ status_after why) × Tells err (printed why)

-- the status of a command whose lines couldn't all be printed: its own, 1 where that is 0
abbrev pub cut_status : ℕ → ℕ
cut_status own = max own 1

-- after a text was told lines are printed, whose status it is; or a proper prefix of them, since standard output failed, and that is told
pub data Says (told lines : List ℕ) (own : ℕ) (out err : Output) (status : ℕ) : Type 0 where
  All_said : status ≡ own → Appends out.before out.after lines → Tells err told → Says told lines own out err status
  Cut_off : status ≡ cut_status own → Cuts out.before out.after lines → Fails out → Tells err (told ++ printed (Build Write)) → Says told lines own out err status
