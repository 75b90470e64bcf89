-- Why a job isn't done.
use Rattle.std.proofs.Common.{◌≡◌, ◌⊎◌, ℕ, inl, inr, List, subst, sym}
use Rattle.nor_base.specs.Device.{Ahead, one_more, raised}
use Rattle.nor_job.specs.Causes.{RefusesInputs}
use Rattle.nor_job.specs.Task.{Task}
use Rattle.nor_job.specs.Written.{of_reader, of_writer}
use Rattle.nor_job.specs.declared.fault.BuildFault.{BuildFault}
use Rattle.nor_job.specs.declared.fault.BuildFault.TheVariants as fault
use Rattle.norprog_common.specs.Rules.{MeetsRules}
use Rattle.norprog_common.specs.declared.faults.Refusal.{Refusal}
use Rattle.norprog_common.specs.declared.faults.Refusal.TheVariants.{Build}
use Rattle.norprog_common.specs.declared.request.Request.{Request}
use Rattle.norprog_common.specs.declared.rules.ImageRules.{ImageRules}
use Rattle.norprog_files.specs.Files.{Event}
use Rattle.norprog_named.specs.Opening.{IsJobOf}
use Rattle.norprog_named.specs.Build.{Breaking, Refused, Stopped, Undone, Work}

-- a failure that is reported was counted
read_rose : (m n : ℕ) (why : BuildFault) → n ≡ raised m (of_reader why) → why ≡ fault.Read → n ≡ one_more m
read_rose m n why counts is = subst (λ (w : BuildFault). n ≡ raised m (of_reader w)) is counts

write_rose : (m n : ℕ) (why : BuildFault) → n ≡ raised m (of_writer why) → why ≡ fault.Write → n ≡ one_more m
write_rose m n why counts is = subst (λ (w : BuildFault). n ≡ raised m (of_writer w)) is counts

pub stopped : (rules : ImageRules) (w : Work) (Stops : BuildFault → Type 0) (A B : Type 0) (k k' m m' : ℕ) (why : BuildFault)
    → MeetsRules rules w.task w.len → (RefusesInputs w.task w.len why × A × B) ⊎ Stops why → (B → w.ended ≡ w.begun)
    → k' ≡ raised k (of_reader why) → m' ≡ raised m (of_writer why) → Undone rules w Stops (k' ≡ one_more k) (m' ≡ one_more m) (Build why)
stopped rules w Stops A B k k' m m' why full (inl early) same read wrote = Refused why early.0 (same early.2)
stopped rules w Stops A B k k' m m' why full (inr late) same read wrote =
    Stopped why full late (read_rose k k' why read) (write_rose m m' why wrote)

pub wider : {rules : ImageRules} {w : Work} {Stops : BuildFault → Type 0} {A B C D : Type 0} {why : Refusal} → (A → C) → (B → D) → Undone rules w Stops A B why
    → Undone rules w Stops C D why
wider f g (Breaking why breaks same) = Breaking why breaks same
wider f g (Refused why refuses same) = Refused why refuses same
wider f g (Stopped why full stops read wrote) = Stopped why full stops (λ is. f (read is)) (λ is. g (wrote is))

-- the job is that of a task that is the same
pub job_by : {r : Request} {content : Ahead} {len : ℕ} {log : List Event} (t u : Task) → u ≡ t → IsJobOf r t content len log → IsJobOf r u content len log
job_by {r} {content} {len} {log} t u is job = subst (λ (v : Task). IsJobOf r v content len log) (sym is) job
