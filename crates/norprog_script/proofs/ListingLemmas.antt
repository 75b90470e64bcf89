-- The script of a listing.
use Rattle.std.proofs.Common.{◌≡◌, ℕ, List, [], ◌∷◌, length, Option, refl, subst}
use Rattle.std.specs.Io.KnownBytes.{Appends}
use Rattle.std.specs.List.{AllByRecursion}
use Rattle.nor_base.specs.Chip.{begins4}
use Rattle.nor_base.specs.Device.{Cuts}
use Rattle.nor_base.specs.Parameters.{Parameters}
use Rattle.nor_base.specs.Script.{script_text}
use Rattle.nor_base.specs.Step.{IsStep}
use Rattle.nor_base.specs.declared.meaning.Start.{Start}
use Rattle.nor_base.specs.declared.step.Step.{Step}
use Rattle.nor_job.specs.Status.{start_of}
use Rattle.nor_job.specs.Task.{Task}
use Rattle.nor_listing.specs.Law.{IsListable}
use Rattle.nor_listing.specs.Read.{IsListingOf, Refuses}
use Rattle.nor_listing.specs.declared.fault.ListFault.{ListFault}
use Rattle.nor_listing.specs.declared.fault.ListFault.TheVariants.{BadLine, Memory}
use Rattle.nor_log.specs.Log.{Log}
use Rattle.norprog_common.specs.Setup.{IsKnown}
use Rattle.norprog_common.specs.declared.faults.Refusal.{Refusal}
use Rattle.norprog_script.specs.declared.tally.Tally.{Tally}
use Rattle.norprog_script.specs.Written.{listed, refusal_for, IsScriptOfLog, WasWritten, WasCut, RefusesLog}

-- what a listing may have a script may have
pub all_steps : (steps : List Step) → AllByRecursion IsListable steps → AllByRecursion IsStep steps
all_steps [] each = tt
all_steps (x ∷ xs) each = (each.0.is_one, all_steps xs each.1)

module _ (t : Task) (m : Parameters) (start : Start) (text : List ℕ) (known : IsKnown t m) (first : start ≡ start_of t) where
  pub bad_listing : (held : Option (List ℕ)) (fault : ListFault) (why : Refusal) → Refuses m (begins4 m start) text fault → why ≡ refusal_for fault → RefusesLog (listed t) text held held why
  bad_listing held (BadLine n) why bad is =
      rw is (record { m = m; known = known; bad = subst (λ s. Refuses m (begins4 m s) text (BadLine n)) first bad }, refl)
  bad_listing held Memory why bad is = rw is refl

  module _ (steps : List Step) (read : IsListingOf m (begins4 m start) text steps) (before after : Option (List ℕ)) where
    abbrev log : Log
    log = record { steps = steps; left_out = [] }

    is : IsScriptOfLog (listed t) text log (script_text steps)
    is = record {
      read = record { m = m; known = known; listed = subst (λ s. IsListingOf m (begins4 m s) text steps) first read; all = refl };
      script = record { each = all_steps steps read.each.each; spelled = refl };
    }

    pub was_written : (tally : Tally) → Appends before after (script_text steps) → tally.steps ≡ length steps → tally.left_out ≡ 0 → WasWritten (listed t) text before after tally
    was_written tally put count none = record { log = log; bytes = script_text steps; is = is; put = put; counts = record { steps = count; left_out = none } }

    pub was_cut : Cuts before after (script_text steps) → WasCut (listed t) text before after
    was_cut put = record { log = log; bytes = script_text steps; is = is; put = put }
