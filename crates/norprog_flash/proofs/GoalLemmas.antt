-- What of the image goes nowhere, by the job and by its inputs.
use Rattle.std.proofs.Common.{◌≡◌, ℕ, ◌+◌, ◌-◌, ◌<◌, ◌^◌, Bool, not, ◌&&◌, if◌then◌else◌, List, [], ◌∷◌, ◌++◌, length, take, drop, refl, ap, ◌∙◌, arith}
use Rattle.std.specs.Prelude.{count_by, nat_le, nat_lt}
use Rattle.std.proofs.Math.Seq.{take-append_seam}
use Rattle.nor_base.specs.Target.{is_ignored}
use Rattle.nor_job.specs.declared.job.Job.{Job}
use Rattle.nor_job.proofs.TargetLemmas.{length-target, target_is}
use Rattle.nor_job.specs.Filled.{target_from}
use Rattle.nor_job.specs.Job.{IsJob}
use Rattle.nor_job.specs.Task.{Task}
use Rattle.nor_layout.specs.Chosen.{has, is_chosen}
use Rattle.std.specs.List.{fold}
use Rattle.norprog_flash.specs.declared.goal.Goal.{Goal}
use Rattle.norprog_flash.specs.Work.{IsGoal}

counts_same : {X : Type 0} (f g : X → Bool) (n : ℕ) (xs : List X) → ((x : X) → f x ≡ g x)
    → fold (λ k x. k + (if f x then 1 else 0)) n xs ≡ fold (λ k x. k + (if g x then 1 else 0)) n xs
counts_same f g n [] same = refl
counts_same f g n (x ∷ xs) same =
    ap (λ b. fold (λ k y. k + (if f y then 1 else 0)) (n + (if b then 1 else 0)) xs) (same x)
    ∙ counts_same f g (n + (if g x then 1 else 0)) xs same

pub ignored_is : (t : Task) (len : ℕ) (job : Job) (is : IsJob t len job)
    → count_by (λ pair. is_ignored job.base (has job.chosen) job.meaning.size pair.0) job.image
    ≡ count_by (λ pair. is_ignored t.base (is_chosen is.regions t.regions) job.meaning.size pair.0) job.image
ignored_is t len job is =
    let c = is_chosen is.regions t.regions in
    counts_same (λ (pair : ℕ × ℕ). is_ignored job.base (has job.chosen) job.meaning.size pair.0)
    (λ (pair : ℕ × ℕ). is_ignored job.base c job.meaning.size pair.0) 0 job.image
    (λ pair. ap (λ b. not (nat_le job.base pair.0 && (nat_lt (pair.0 - job.base) job.meaning.size && b))) (is.chosen (pair.0 - job.base)))
    ∙ ap (λ base. count_by (λ pair. is_ignored base c job.meaning.size pair.0) job.image) is.base

-- so what a job fills is the target of its inputs
pub goal_is : (t : Task) (old : List ℕ) (job : Job) (is : IsJob t (length old) job) (goal : Goal)
    → goal.bytes.items ≡ target_from job 0 old
    → goal.given ≡ length job.image
    → goal.ignored ≡ count_by (λ pair. is_ignored job.base (has job.chosen) job.meaning.size pair.0) job.image
    → job.meaning.size < 2 ^ 32 → IsGoal t old goal
goal_is t old job is goal fills given counts small =
    let size = is.accepted.size in
    record {
      image = job.image;
      regions = is.regions;
      m = job.meaning;
      accepted = is.accepted;
      bytes = fills ∙ target_is t (length old) job is old;
      size = ap length fills ∙ length-target job 0 old;
      few = omega (arith, size, small);
      given = given;
      ignored = counts ∙ ignored_is t (length old) job is;
    }

-- what a vector holds after all of it was written through a slice of it
pub written : (new items : List ℕ) (len : ℕ) → len ≡ length new → take len (new ++ drop (length new) items) ≡ new
written new items len long = ap (λ n. take n (new ++ drop (length new) items)) long ∙ take-append_seam new (drop (length new) items)
