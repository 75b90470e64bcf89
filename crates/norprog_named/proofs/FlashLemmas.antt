-- What is said of a job.
use Rattle.std.proofs.Common.{ℕ, List, [], ◌∷◌, ◌++◌, Global, Option, Some, Result, Ok, Err, Vec, option_map, subst}
use Rattle.norprog_common.specs.Told.{Output, between}
use Rattle.norprog_common.specs.declared.given.FlashArgs.{FlashArgs}
use Rattle.norprog_flash.specs.declared.ending.Ending.{Ending}
use Rattle.norprog_flash.specs.declared.ending.Unflashed.{Unflashed}
use Rattle.norprog_flash.specs.declared.ending.Unflashed.TheVariants.{Closed, Device, Refused, Unlike}
use Rattle.norprog_named.specs.AskedDevice.{SaysFlash}
use Rattle.norprog_common.specs.Chip.{origin_of}
use Rattle.norprog_common.specs.Image.{Image}
use Rattle.norprog_common.specs.declared.faults.Refusal.{Refusal}
use Rattle.norprog_files.specs.Files.{AreUsed, Event, NoneUsed}
use Rattle.norprog_flash.specs.declared.request.FlashRequest.{FlashRequest}
use Rattle.norprog_named.specs.Flash.{NoImage, OfImage, ReadsAsked, ReadsFlash, Reads_all, StillWorks, asked_files, asked_in, layout_in, old_in}
use Rattle.norprog_named.specs.Job.{Read_image, Reading, Reads, ReadsImage, ReadsNamed, image_file}
use Rattle.norprog_named.proofs.JobLemmas.{image_used}
use Rattle.norprog_named.specs.declared.flash_files.FlashFiles.{FlashFiles}

-- the file of an image was read, or there is none
pub asked_used : {image : Option Image} {bytes : List ℕ} {log : List Event} → ReadsAsked image bytes log → AreUsed (asked_files image) log
asked_used (NoImage bytes) = NoneUsed
asked_used (OfImage image bytes) = image_used image {bytes = bytes} Read_image

pub asked_read : (image : Image) (result : Result (Vec ℕ Global) Refusal) (log : List Event)
    → Reading (image_file image ∷ []) (λ bytes. ReadsImage image bytes.items) result log
    → Reading (asked_files (Some image)) (λ bytes. ReadsAsked (Some image) bytes.items) result log
asked_read image (Ok bytes) log Read_image = OfImage image bytes.items
asked_read image (Err why) log stops = stops

-- all files were read
pub reads_all : {r : FlashRequest} {read : FlashFiles} {image layout tables old : List Event} → ReadsAsked (asked_in r) read.hex.items image
    → Reads (option_map (λ t. t.now) r.layout) (layout_in read) layout
    → ReadsNamed (option_map origin_of r.read.chip) read.sfdp.items tables
    → Reads (option_map (λ t. t.now) r.resume) (old_in read) old → ReadsFlash r read (image ++ (layout ++ (tables ++ old)))
reads_all {image = image} {layout = layout} {tables = tables} {old = old} zeroth first second third = Reads_all image layout tables old zeroth first second third

-- what fails as an answer is said had failed no more often before
pub says_wider : (given : FlashArgs) (k m n : ℕ) (before after : Option (List ℕ)) (err : Output) (status : ℕ) (answer : Result Ending Unflashed)
    → StillWorks answer k m → SaysFlash given (between before after m n) err status answer → SaysFlash given (between before after k n) err status answer
says_wider given k m n before after err status (Ok ending) same said = subst (λ (c : ℕ). SaysFlash given (between before after c n) err status (Ok ending)) same said
says_wider given k m n before after err status (Err (Refused why)) same said = said
says_wider given k m n before after err status (Err (Device why)) same said = said
says_wider given k m n before after err status (Err (Unlike why)) same said = subst (λ (c : ℕ). SaysFlash given (between before after c n) err status (Err (Unlike why))) same said
says_wider given k m n before after err status (Err (Closed bits)) same said = subst (λ (c : ℕ). SaysFlash given (between before after c n) err status (Err (Closed bits))) same said
