-- A new file that was closed.
use Rattle.std.proofs.Common.{◌≡◌, ℕ, List, Option, Result, Ok, Err, arith}
use Rattle.std.specs.Io.KnownBytes.{Appends}
use Rattle.nor_base.specs.Device.{Counts, Writes}
use Rattle.nor_base.proofs.DeviceLaws.{risen_some}
use Rattle.nor_base.specs.declared.device.Failed.{Failed}

-- one of which all has gone out, so that no write had failed, took all
pub took_all : {T : Type 0} (before after : Option (List ℕ)) (m n : ℕ) (result : Result T Failed) (bytes : List ℕ) → Writes before after result bytes
    → Counts m n result → n ≡ 0 → Appends before after bytes
took_all before after m n (Ok x) bytes put count last = put
took_all before after m n (Err why) bytes put count last = absurd (let some = risen_some m n count in omega (arith, some, last))
