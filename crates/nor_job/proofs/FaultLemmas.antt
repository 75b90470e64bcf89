-- A fault that `?` hands on.
use Rattle.std.proofs.Common.{◌≡◌, ◌≢◌, ℕ, List, Option, None}
use Rattle.nor_hex.specs.declared.fault.HexFault.{HexFault}
use Rattle.nor_hex.specs.declared.fault.HexFault.TheVariants as hex
use Rattle.nor_hex.specs.Faults.{IsFault}
use Rattle.nor_hex.specs.Image.{Pairs}
use Rattle.nor_job.specs.Task.{Task, contradiction}
use Rattle.nor_job.specs.Causes.{HasImage, ImageSays, RefusesImage, RefusesInputs}
use Rattle.nor_job.specs.Causes.{OfText, OutOfMemory}
use Rattle.nor_job.specs.declared.fault.BuildFault.{BuildFault}
use Rattle.nor_job.specs.Lifted.{lifted_hex}

-- the image is the task's
pub has_image : (t : Task) (image : Pairs) → contradiction t ≡ None → ImageSays t.image t.hex image → HasImage t image
has_image t image consistent spelled = record { consistent = consistent; spelled = spelled }

-- a text's fault
pub of_text : (given : Option Pairs) (text : List ℕ) (why : HexFault) → given ≡ None → (why ≢ hex.Memory → IsFault text why) → RefusesImage given text (lifted_hex why)
of_text given text hex.Memory none told = OutOfMemory
of_text given text (hex.NoColon n) none told = let real : hex.NoColon n ≢ hex.Memory = (λ e. cc) in OfText (hex.NoColon n) none real (told real)
of_text given text (hex.BadDigit n) none told = let real : hex.BadDigit n ≢ hex.Memory = (λ e. cc) in OfText (hex.BadDigit n) none real (told real)
of_text given text (hex.BadLength n) none told = let real : hex.BadLength n ≢ hex.Memory = (λ e. cc) in OfText (hex.BadLength n) none real (told real)
of_text given text (hex.BadSum n) none told = let real : hex.BadSum n ≢ hex.Memory = (λ e. cc) in OfText (hex.BadSum n) none real (told real)
of_text given text (hex.BadType n) none told = let real : hex.BadType n ≢ hex.Memory = (λ e. cc) in OfText (hex.BadType n) none real (told real)
of_text given text (hex.Conflict n) none told = let real : hex.Conflict n ≢ hex.Memory = (λ e. cc) in OfText (hex.Conflict n) none real (told real)
of_text given text (hex.NoEnd n) none told = let real : hex.NoEnd n ≢ hex.Memory = (λ e. cc) in OfText (hex.NoEnd n) none real (told real)
of_text given text (hex.AfterEnd n) none told = let real : hex.AfterEnd n ≢ hex.Memory = (λ e. cc) in OfText (hex.AfterEnd n) none real (told real)

-- so are the faults of an image
pub refuses_image : (t : Task) (len : ℕ) (why : BuildFault) → contradiction t ≡ None → RefusesImage t.image t.hex why → RefusesInputs t len why
refuses_image t len why consistent (OfText its none real told) = (consistent, none, real, told)
refuses_image t len why consistent OutOfMemory = consistent
