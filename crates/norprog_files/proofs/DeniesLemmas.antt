-- Why a file is denied: it can't be used, or memory ran out.
use Rattle.std.proofs.Common.{ℕ, List, Option, Result, Err}
use Rattle.std.specs.declared.io.Error.{Error}
use Rattle.norprog_common.specs.declared.faults.FileName.{FileName}
use Rattle.norprog_common.specs.declared.faults.FileName.TheVariants.{Device}
use Rattle.norprog_common.specs.declared.faults.Refusal.{Refusal}
use Rattle.norprog_files.specs.declared.disk.FileId.{FileId}
use Rattle.norprog_files.specs.declared.disk.How.{How}
use Rattle.norprog_files.specs.declared.disk.Stat.{Stat}
use Rattle.norprog_files.specs.Disk.{Call}
use Rattle.norprog_files.specs.Files.{Denies, Unallotted, Unusable}
use Rattle.norprog_common.specs.declared.given.OutFile.{OutFile}
use Rattle.norprog_files.specs.Replaced.{Spares, Unlike, Unknown, name_of}
use Rattle.norprog_files.specs.declared.replaced.OutKind.{OutKind}
use Rattle.norprog_files.specs.Guards as guard
use Rattle.norprog_files.specs.Guards.{EndsApart, EndsDevice, EndsInput, EndsLook, EndsOpen, EndsOutput, FindsTerminal, OpensSame}

pub look_denies : {F : Type 0} {path : List ℕ} {how : How} {name : FileName} {log : List (Call F)} {why : Refusal} → EndsLook path how name log (Err why) → Denies name why
look_denies (guard.Unseen file error why denies) = denies
look_denies (guard.Unreached error why denies) = denies

pub open_denies : {F : Type 0} {path : List ℕ} {how : How} {name : FileName} {log : List (Call F)} {why : Refusal} → EndsOpen path how name log (Err why) → Denies name why
open_denies (guard.Unopened error why denies) = denies

pub input_denies : {F : Type 0} {path : List ℕ} {name : FileName} {log : List (Call F)} {ids : List FileId} {why : Refusal} → EndsInput path name log ids (Err why)
    → Denies name why
input_denies (guard.IsFolder file stat log look is) = Unusable
input_denies (guard.NoRoom file stat log look) = Unallotted
input_denies (guard.NoInput log why look) = look_denies look

apart_denies : {places : List FileId} {name : FileName} {found : Result Stat Error} {why : Refusal} → EndsApart places name found (Err why) → Denies name why
apart_denies (guard.IsSame stat is) = Unusable
apart_denies (guard.Unasked error why denies) = denies

spares_denies : {F : Type 0} {remaining : F → Option (List ℕ)} {o : OutFile} {kind : OutKind} {found : Result Stat Error} {log : List (Call F)} {why : Refusal}
    → Spares remaining o kind found log (Err why) → Denies (name_of kind) why
spares_denies (Unlike len file front risk shown other) = Unusable
spares_denies (Unknown len result why risk denies) = denies

pub output_denies : {F : Type 0} {remaining : F → Option (List ℕ)} {o : OutFile} {kind : OutKind} {opened : List FileId} {log : List (Call F)} {why : Refusal}
    → EndsOutput remaining o kind opened log (Err why) → Denies (name_of kind) why
output_denies (guard.IsMade found printed looked log result apart other spared ends) = open_denies ends
output_denies (guard.OverInput found printed why ends) = apart_denies ends
output_denies (guard.OverPrinted found printed why ends) = apart_denies ends
output_denies (guard.OverOther found printed looked why ends) = spares_denies ends

same_denies : {F : Type 0} {path : List ℕ} {how : How} {place : FileId} {log : List (Call F)} {why : Refusal} → OpensSame path how place log (Err why) → Denies Device why
same_denies (guard.IsAnother asked other) = Unusable
same_denies (guard.IsUnasked error why denies) = denies
same_denies (guard.BecomesAnother file asked seen log same look other) = Unusable
same_denies (guard.Unseen_again asked log why same look) = look_denies look

terminal_denies : {F : Type 0} {remaining : F → Option (List ℕ)} {path : List ℕ} {log : List (Call F)} {why : Refusal} → FindsTerminal remaining path log (Err why)
    → Denies Device why
terminal_denies (guard.NoDevice found why denies) = denies
terminal_denies (guard.NoList stat log why look) = look_denies look
terminal_denies (guard.NoTerminal stat seen list log why look denies) = denies

pub device_denies : {F A : Type 0} {remaining : F → Option (List ℕ)} {path : List ℕ} {log : List (Call F)} {why : Refusal} → EndsDevice {A = A} remaining path log (Err why)
    → Denies Device why
device_denies (guard.Unfound found why terminal) = terminal_denies terminal
device_denies (guard.Unreadable place found reading why terminal same) = same_denies same
device_denies (guard.Unbuffered place from found reading terminal same) = Unallotted
device_denies (guard.Unwritable place from found reading writing why terminal same other) = same_denies other
