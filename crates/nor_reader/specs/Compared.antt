-- How bytes of a chip differ from those that are wanted (this project's).
use Rattle.std.specs.Prelude.{◌≡◌, ◌≢◌, ◌<◌, ℕ, List, length, take, slice_index, Result, Ok, Err}
use Rattle.nor_base.specs.Device.{one_more}
use Rattle.nor_serprog.specs.declared.fault.Fault.{Fault}
use Rattle.nor_serprog.specs.declared.fault.Fault.TheVariants as fault
use Rattle.nor_reader.specs.declared.difference.Mismatch.{Mismatch}
use Rattle.nor_reader.specs.declared.difference.Mismatch.TheVariants as mismatch

-- the first place at which what came isn't what was wanted
pub record IsFirstDifference (got want : List ℕ) (place : ℕ) : Type 0 where
  pub within : place < length got
  pub before : take place got ≡ take place want
  pub other : slice_index got place ≢ slice_index want place

-- the reader's count of failures rises by one exactly where the exchange ended in Read, the writer's where it ended in Write
abbrev pub CountsMismatch : {T : Type 0} → Fault → ℕ → ℕ → Result T Mismatch → Type 0
CountsMismatch device before after (Ok x) = after ≡ before
CountsMismatch fault.Read before after (Err (mismatch.Exchange fault.Read)) = after ≡ one_more before
CountsMismatch fault.Write before after (Err (mismatch.Exchange fault.Write)) = after ≡ one_more before
CountsMismatch device before after (Err other) = after ≡ before
