-- Files that are looked at again.
use Rattle.std.proofs.Common.{ℕ, List, [], ◌∷◌, ◌++◌, Result, Ok, Err}
use Rattle.std.specs.List.{Contains}
use Rattle.norprog_details.specs.Details.{AreLooks, IsAsked, IsDenied, IsRead, LooksAgain, NoLook, NoneAgain, OneAgain, OneLook, path_of}
use Rattle.norprog_details.specs.declared.typed.Typed.{Typed}
use Rattle.norprog_files.specs.Files.{Asked, Denied, Did, Event, Given, came}
use Rattle.norprog_files.proofs.FilesLemmas.{adds_both}

pub asked : (path : List ℕ) → AreLooks path (Asked path ∷ [])
asked path = OneLook (Asked path) [] IsAsked NoLook

-- it was read, or couldn't be
pub read : {T E : Type 0} (path : List ℕ) (bytes : T → List ℕ) (r : Result T E) → AreLooks path (came r (λ x. Given path (bytes x)) (Denied path))
read path bytes (Ok x) = OneLook (Given path (bytes x)) [] (IsRead (bytes x)) NoLook
read path bytes (Err why) = OneLook (Denied path) [] IsDenied NoLook

pub both : {path : List ℕ} {xs ys : List Event} → AreLooks path xs → AreLooks path ys → AreLooks path (xs ++ ys)
both NoLook looks = looks
both {ys = ys} (OneLook event log is more) looks = OneLook event (log ++ ys) is (both more looks)

-- those at an option's file are at one of the options
pub looks_at : (typed : List Typed) (option : Typed) {log : List Event} → Contains typed option → AreLooks (path_of typed option) log → LooksAgain typed log
looks_at typed option at NoLook = NoneAgain
looks_at typed option at (OneLook event log is more) = OneAgain option event log at is (looks_at typed option at more)

pub looks_both : {typed : List Typed} {xs ys : List Event} → LooksAgain typed xs → LooksAgain typed ys → LooksAgain typed (xs ++ ys)
looks_both NoneAgain looks = looks
looks_both {ys = ys} (OneAgain option event log at is more) looks = OneAgain option event (log ++ ys) at is (looks_both more looks)

-- and then at the file of one of the options
pub then_at : {a b c : List Event → Type 0} (typed : List Typed) (option : Typed) → Contains typed option → Did a b (LooksAgain typed)
    → Did b c (AreLooks (path_of typed option)) → Did a c (LooksAgain typed)
then_at typed option at before looks = (_, adds_both before.1 looks.1, looks_both before.2 (looks_at typed option at looks.2))
