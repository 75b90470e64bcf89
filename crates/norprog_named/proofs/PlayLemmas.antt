-- A play that ended, or didn't begin.
use Rattle.std.proofs.Common.{◌≡◌, ◌∙◌, ◌<◌, ℕ, Bool, List, ap, subst}
use Rattle.nor_base.proofs.DeviceLaws.{risen_some}
use Rattle.nor_base.specs.Device.{raised}
use Rattle.std.specs.Prelude.{All}
use Rattle.nor_base.specs.Port.{Shown}
use Rattle.nor_base.specs.declared.step.Step.{Step}
use Rattle.nor_serprog.specs.Done.{IsDoable}
use Rattle.norprog_player.specs.Put.{Answered, ArePut, Themselves}
use Rattle.nor_base.specs.declared.meaning.Part.{Part}
use Rattle.nor_base.specs.declared.meaning.Start.{Start}
use Rattle.nor_job.specs.Status.{start_of}
use Rattle.nor_job.specs.Task.{Task}
use Rattle.nor_job.specs.declared.fault.BuildFault.TheVariants.{Read}
use Rattle.norprog_common.specs.Content.{of_reader}
use Rattle.norprog_common.specs.declared.faults.FileName.TheVariants as file
use Rattle.norprog_common.specs.declared.faults.Refusal.{Refusal}
use Rattle.norprog_common.specs.declared.faults.Refusal.TheVariants.{Build, File}
use Rattle.norprog_player.specs.Expected.{Expectation}
use Rattle.norprog_player.specs.Job.{of_script}
use Rattle.norprog_player.specs.Tables.{tables_of}

-- what a device is to do it can do
pub put_doable : (shown : Shown) (steps put : List Step) → ArePut shown steps put → All IsDoable put
put_doable shown steps put (Themselves each) = each
put_doable shown steps put (Answered put' after answered each) = each

-- a reader that is blamed has failed, where none had before
pub script_failed : (m n : ℕ) (why : Refusal) → n ≡ raised m (of_script why) → why ≡ File file.Script → 0 < n
script_failed m n why counts is = risen_some m n (subst (λ (w : Refusal). n ≡ raised m (of_script w)) is counts)

pub content_failed : (m n : ℕ) (why : Refusal) → n ≡ raised m (of_reader why) → why ≡ Build Read → 0 < n
content_failed m n why counts is = risen_some m n (subst (λ (w : Refusal). n ≡ raised m (of_reader w)) is counts)

-- the chip that is expected, by what the code says of how it begins and of its tables
abbrev expected_of : Part → Start → List ℕ → Bool → Expectation
expected_of part start tables trusted = record { part = part; start = start; tables = tables; trusted = trusted }

pub expected_so : (t : Task) (part : Part) (start : Start) (tables : List ℕ) (trusted : Bool) → part ≡ t.part → start ≡ start_of t → tables ≡ tables_of t.chip
    → expected_of part start tables trusted ≡ expected_of t.part (start_of t) (tables_of t.chip) trusted
expected_so t part start tables trusted family begins known =
    ap (λ (p : Part). expected_of p start tables trusted) family
    ∙ ap (λ (s : Start). expected_of t.part s tables trusted) begins
    ∙ ap (λ (l : List ℕ). expected_of t.part (start_of t) l trusted) known
