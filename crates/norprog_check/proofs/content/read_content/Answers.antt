-- Why a content wasn't read as a whole: the window that takes it has the chip's size.
use Rattle.std.proofs.Common.{rules, ◌≡◌, ◌<◌, ℕ, List, length, arith}
use Rattle.nor_base.specs.Device.{Ahead}
use Rattle.nor_base.proofs.FaultLaws.{handed_on}
use Rattle.nor_job.specs.Filled.{FillsWindow, WindowCause}
use Rattle.nor_job.specs.declared.fault.BuildFault.{BuildFault}
use Rattle.nor_job.specs.declared.fault.BuildFault.TheVariants as fault
use Rattle.std.specs.Prelude.{Err}
use Rattle.norprog_check.specs.Content.{ReadCause, StopsRead}
use Rattle.norprog_check.proofs.content.read_content.Goals as goal

cause_of : (len : ℕ) (part : List ℕ) (after : Ahead) (why : BuildFault) → length part < len → WindowCause after why → ReadCause len part after why
cause_of len part after fault.ContentShort less is = (less, is)
cause_of len part after fault.Read less is = less
cause_of len part after other less is = absurd is

stops : (len : ℕ) (before after : Ahead) (window : List ℕ) (why : BuildFault) → length window ≡ len → FillsWindow before after (Err why) window → StopsRead len before after why
stops len before after window why size is =
    let less : length is.0 < len = omega (arith, size, is.1) in
    record { part = is.0; within = omega (arith, less); given = is.2; cause = cause_of len is.0 after why less is.3 }

pub returns-in_err-fill_window-clause-stopped : goal.returns-in_err-fill_window-clause-stopped
returns-in_err-fill_window-clause-stopped g c =
    let size : length c.fill_window.new.window ≡ c.args.job.now.meaning.size = search rules in
    handed_on _ _ _ c.from_residual-in_err-fill_window.ensures.1 (stops _ _ _ c.fill_window.new.window _ size c.in_err-fill_window.ensures.bytes)
