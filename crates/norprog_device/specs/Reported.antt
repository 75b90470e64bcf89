-- Why a step isn't done by a device, as it is reported (this project's).
use Rattle.std.specs.Prelude.{◌≡◌, ℕ, ◌+◌, ◌%◌, ◌^◌, true, false, if◌then◌else◌, List, Option, Some, None, get_or}
use Rattle.nor_base.specs.Decoding.{Transaction, transaction}
use Rattle.nor_base.specs.Effect.{is_read}
use Rattle.nor_base.specs.Parameters.{Parameters}
use Rattle.nor_base.specs.Step.{expected, step_clocks}
use Rattle.nor_base.specs.declared.step.Step.{Step}
use Rattle.nor_reader.specs.declared.difference.Mismatch.{Mismatch}
use Rattle.nor_reader.specs.declared.difference.Mismatch.TheVariants as mismatch
use Rattle.nor_serprog.specs.declared.fault.Reason.{Reason}
use Rattle.nor_serprog.specs.declared.fault.Reason.TheVariants as reason
use Rattle.nor_serprog.specs.declared.halt.Halt.{Halt}
use Rattle.norprog_device.specs.declared.failure.Failure.{Failure}
use Rattle.norprog_device.specs.declared.failure.Failure.TheVariants as failure

-- the address of what a chip sees, where that is a read of its bytes
abbrev pub address_of : Option Transaction → Option ℕ
address_of None = None
address_of (Some t) = if is_read t.what then Some t.address else None

-- the first that there is
abbrev pub either : Option ℕ → Option ℕ → Option ℕ
either (Some address) other = Some address
either None other = other

-- the address that a read of these clocks has, in three-byte mode or, where they are none there, in four-byte mode
abbrev pub read_address : Parameters → List ℕ → Option ℕ
read_address m clocks = either (address_of (transaction m false clocks)) (address_of (transaction m true clocks))

-- another byte came at a place of the answer: where it is one of the chip's bytes its address is reported
abbrev pub other_byte : Option ℕ → ℕ → ℕ → ℕ → Failure
other_byte (Some start) place chip want = failure.Differs (record { address = (start + place) % 2 ^ 32; chip = chip; want = want })
other_byte None place chip want = failure.Gives chip want

-- the failure of a step of these clocks that was to give these bytes
abbrev pub FailsAs : Parameters → List ℕ → List ℕ → Reason → Failure → Type 0
FailsAs m clocks want (reason.Exchange why) failed = failed ≡ failure.Exchange why
FailsAs m clocks want reason.Busy failed = failed ≡ failure.Busy
FailsAs m clocks want reason.Carried failed = failed ≡ failure.Carried
FailsAs m clocks want (reason.Differs place byte) failed = failed ≡ other_byte (read_address m clocks) place byte (get_or want place 0)

-- the failure of the step at which a device halted
abbrev pub IsFailureAt : Parameters → List Step → Halt → Failure → Type 0
IsFailureAt m steps halt why =
    (at : Step) × (at ≡ get_or steps halt.step at) × FailsAs m (step_clocks at) (expected at) halt.why why

-- the failure of a read after all steps
abbrev pub failure_by : Mismatch → Failure
failure_by (mismatch.Exchange why) = failure.Exchange why
failure_by (mismatch.Differs difference) = failure.Differs difference
