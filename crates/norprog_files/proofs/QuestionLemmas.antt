-- Calls by which nothing is made, emptied or written.
use Rattle.std.proofs.Common.{ℕ, List, [], ◌∷◌, ◌++◌, Result, Ok, Err}
use Rattle.std.specs.declared.io.Error.{Error}
use Rattle.norprog_common.specs.declared.faults.FileName.{FileName}
use Rattle.norprog_common.specs.declared.faults.Refusal.{Refusal}
use Rattle.norprog_files.specs.declared.disk.How.TheVariants.{Read, Write}
use Rattle.norprog_files.specs.declared.disk.Stat.{Stat}
use Rattle.norprog_files.specs.Disk.{Asks, Call, Opens}
use Rattle.norprog_files.specs.Guards.{AreQuestions, EndsLook, IsSeen, NoQuestion, OfFile, OfName, OneQuestion, ToRead, ToWrite, Unreached, Unseen}

pub asks : {F : Type 0} (path : List ℕ) (found : Result Stat Error) → AreQuestions {F = F} (Asks path found ∷ [])
asks path found = OneQuestion _ [] (OfName path found) NoQuestion

pub reads : {F : Type 0} (path : List ℕ) (result : Result F Error) → AreQuestions (Opens path Read result ∷ [])
reads path result = OneQuestion _ [] (ToRead path result) NoQuestion

pub writes : {F : Type 0} (path : List ℕ) (result : Result F Error) → AreQuestions (Opens path Write result ∷ [])
writes path result = OneQuestion _ [] (ToWrite path result) NoQuestion

pub looks : {F : Type 0} {path : List ℕ} {name : FileName} {log : List (Call F)} {result : Result (F × Stat) Refusal} → EndsLook path Read name log result → AreQuestions log
looks {path = path} (IsSeen file stat) = OneQuestion _ _ (ToRead path (Ok file)) (OneQuestion _ [] (OfFile file (Ok stat)) NoQuestion)
looks {path = path} (Unseen file error why denied) = OneQuestion _ _ (ToRead path (Ok file)) (OneQuestion _ [] (OfFile file (Err error)) NoQuestion)
looks {path = path} (Unreached error why denied) = OneQuestion _ [] (ToRead path (Err error)) NoQuestion

pub both : {F : Type 0} {xs ys : List (Call F)} → AreQuestions xs → AreQuestions ys → AreQuestions (xs ++ ys)
both NoQuestion more = more
both {ys = ys} (OneQuestion call log is rest) more = OneQuestion call (log ++ ys) is (both rest more)
