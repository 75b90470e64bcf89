-- Why nothing is found of a script that a device tells.
use Rattle.std.proofs.Common.{◌≡◌, ℕ, Err, sym, subst}
use Rattle.nor_base.specs.Device.{one_more, raised}
use Rattle.nor_job.specs.declared.fault.BuildFault.{BuildFault}
use Rattle.nor_job.specs.declared.fault.BuildFault.TheVariants as fault
use Rattle.nor_job.specs.declared.job.Job.{Job}
use Rattle.nor_job.specs.Job.{IsJob}
use Rattle.nor_job.specs.Written.{of_reader}
use Rattle.nor_script.specs.declared.fault.ReadFault.{ReadFault}
use Rattle.nor_script.specs.declared.fault.ReadFault.TheVariants as read
use Rattle.nor_script.specs.declared.fault.ScriptFault.TheVariants as script
use Rattle.nor_script.specs.Stream.{CountsRead, HadText, IsSpelled, StopsReader}
use Rattle.norprog_check.specs.declared.fault.StreamStop.TheVariants.{Check}
use Rattle.norprog_check.specs.declared.fault.CheckStop.TheVariants.{Build}
use Rattle.norprog_check.specs.Checked.{AreTaken}
use Rattle.norprog_check.specs.Content.{StopsRead}
use Rattle.norprog_check.specs.Lifted.{lifted_reading}
use Rattle.norprog_check.specs.Stream.{BadReading, NoContent, NoMemory, NoScript, Unchecked, Work}
use Rattle.norprog_check.proofs.CheckLemmas.{taken_of}

-- the script isn't read
pub unread : (T : Type 0) (w : Work) (Unheld : Type 0) (m n : ℕ) (why : ReadFault) → AreTaken w.task w.len → StopsReader w.script w.rest why
    → CountsRead {T = T} m n (Err why) → Unchecked w (n ≡ one_more m) Unheld (lifted_reading why)
unread T w Unheld m n (read.Script (script.Header i)) taken stops counts = NoScript (script.Header i) taken stops
unread T w Unheld m n (read.Script (script.BadLine i)) taken stops counts = NoScript (script.BadLine i) taken stops
unread T w Unheld m n (read.Script (script.BadSymbol i)) taken stops counts = NoScript (script.BadSymbol i) taken stops
unread T w Unheld m n (read.Script (script.BadCount i)) taken stops counts = NoScript (script.BadCount i) taken stops
unread T w Unheld m n (read.Script (script.NoEnd i)) taken stops counts = NoScript (script.NoEnd i) taken stops
unread T w Unheld m n (read.Script (script.AfterEnd i)) taken stops counts = NoScript (script.AfterEnd i) taken stops
unread T w Unheld m n (read.Script script.Memory) taken stops counts = NoMemory taken
unread T w Unheld m n (read.Device failed) taken stops counts = BadReading failed taken counts

-- a failure that is told was counted
rose : (k n : ℕ) (why : BuildFault) → n ≡ raised k (of_reader why) → why ≡ fault.Read → n ≡ one_more k
rose k n why counts is = subst (λ (w : BuildFault). n ≡ raised k (of_reader w)) is counts

-- the content isn't
pub unheld : (w : Work) (job : Job) (Unread : Type 0) (k n : ℕ) (why : BuildFault) → IsJob w.task w.len job → HadText w.script w.rest IsSpelled
    → StopsRead job.meaning.size w.content w.left why → n ≡ raised k (of_reader why) → Unchecked w Unread (n ≡ one_more k) (Check (Build why))
unheld w job Unread k n why is spelled stops counts =
    NoContent why (taken_of w.task w.len job is) spelled (subst (λ size. StopsRead size w.content w.left why) (sym is.accepted.size) stops) (rose k n why counts)
