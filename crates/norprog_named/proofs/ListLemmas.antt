-- How the listing of the script that was opened ends.
use Rattle.std.proofs.Common.{◌≡◌, ℕ, Bool, List, [], ◌∷◌, ◌++◌, Ok, Err, subst, sym}
use Rattle.nor_base.specs.Chip.{begins4}
use Rattle.nor_base.specs.Device.{Ahead, one_more}
use Rattle.nor_base.specs.Parameters.{Parameters}
use Rattle.nor_job.specs.Status.{start_of}
use Rattle.nor_job.specs.Task.{Task}
use Rattle.nor_listing.specs.Stream.{CountsOut, CountsStop, Lists}
use Rattle.nor_listing.specs.declared.stream.Stop.{Stop}
use Rattle.nor_listing.specs.declared.stream.Stop.TheVariants as stop
use Rattle.nor_script.specs.Stream.{IsTextOf}
use Rattle.nor_script.specs.declared.fault.ReadFault.TheVariants as read
use Rattle.nor_script.specs.declared.fault.ScriptFault.TheVariants as script
use Rattle.nor_base.specs.Wire.{wire}
use Rattle.norprog_common.specs.Chip.{origin_of}
use Rattle.norprog_common.specs.Setup.{IsKnown, setup_task}
use Rattle.norprog_files.specs.Files.{Event, Opened}
use Rattle.norprog_common.specs.Told.{Fails, Output}
use Rattle.norprog_named.specs.Job.{ReadsTables}
use Rattle.norprog_named.specs.List.{BadOutput, BadReading, BadScript, EndsList, IsListingOf, Listed, NoMemory, Opens, Opens_script, refusal_of}
use Rattle.norprog_named.specs.declared.list_files.ListRequest.{ListRequest}

-- both files of a request are opened
pub opens : (r : ListRequest) (script : Ahead) (len : ℕ) {t : Task} {tables : List ℕ} {log : List Event} → t ≡ setup_task r.setup tables
    → ReadsTables (origin_of r.setup.chip) tables log → Opens r t script (log ++ (Opened r.script.now script len ∷ []))
opens r script len {log = log} is tables =
    subst (λ (u : Task). Opens r u script (log ++ (Opened r.script.now script len ∷ []))) (sym is) (Opens_script _ script len log tables)

-- what was printed of the script, by the chip that is known
module _ {t : Task} {m : Parameters} {four : Bool} {ahead : Ahead} (Unread : Type 0) (r : ListRequest) (out : Output) (rest : Ahead) (log : List Event)
    (opened : Opens r t ahead log) (known : IsKnown t m) (begins : four ≡ begins4 m (start_of t)) where
  of : (text : List ℕ) → IsTextOf ahead rest text → IsListingOf r (record { chip = m; four = four; text = text }) log
  of text had = record { task = t; script = ahead; rest = rest; opens = opened; known = known; begins = begins; text = had }

  pub listed : Lists m four (wire out.before ahead) (wire out.after rest) (Ok tt) → EndsList Unread r out log (Ok 0)
  listed did = Listed _ log (of did.0 did.1) did.2

  -- its reader failed, or the output did, where its count of failures rose
  pub stopped : (n n' k k' : ℕ) (s : Stop) → Lists m four (wire out.before ahead) (wire out.after rest) (Err s) → CountsStop n n' (Err s) → CountsOut {T = Unit {0}} k k' (Err s)
      → (n' ≡ one_more n → Unread) → (k' ≡ one_more k → Fails out) → EndsList Unread r out log (Err (refusal_of s))
  stopped n n' k k' (stop.Script (read.Script (script.Header i))) did reads writes unread broke = BadScript _ log (script.Header i) (of did.0 did.1) did.2
  stopped n n' k k' (stop.Script (read.Script (script.BadLine i))) did reads writes unread broke = BadScript _ log (script.BadLine i) (of did.0 did.1) did.2
  stopped n n' k k' (stop.Script (read.Script (script.BadSymbol i))) did reads writes unread broke = BadScript _ log (script.BadSymbol i) (of did.0 did.1) did.2
  stopped n n' k k' (stop.Script (read.Script (script.BadCount i))) did reads writes unread broke = BadScript _ log (script.BadCount i) (of did.0 did.1) did.2
  stopped n n' k k' (stop.Script (read.Script (script.NoEnd i))) did reads writes unread broke = BadScript _ log (script.NoEnd i) (of did.0 did.1) did.2
  stopped n n' k k' (stop.Script (read.Script (script.AfterEnd i))) did reads writes unread broke = BadScript _ log (script.AfterEnd i) (of did.0 did.1) did.2
  stopped n n' k k' (stop.Script (read.Script script.Memory)) did reads writes unread broke = NoMemory _ log (of did.0 did.1) did.2
  stopped n n' k k' (stop.Script (read.Device failed)) did reads writes unread broke = BadReading _ log (of did.0 did.1) did.2 (unread reads)
  stopped n n' k k' (stop.Out failed) did reads writes unread broke = BadOutput _ log (of did.0 did.1) did.2 (broke writes)
