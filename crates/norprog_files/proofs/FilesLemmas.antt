-- Files that are opened and made, one after another.
use Rattle.std.proofs.Common.{◌≡◌, ◌<◌, ℕ, List, [], ◌++◌, Option, Result, Ok, Err, IfOk, append-nil, append_assoc, arith, refl, subst, sym}
use Rattle.nor_base.proofs.DeviceLaws.{risen_some}
use Rattle.nor_base.specs.Device.{one_more}
use Rattle.norprog_common.specs.declared.faults.FileName.{FileName}
use Rattle.norprog_common.specs.declared.faults.Refusal.{Refusal}
use Rattle.norprog_files.specs.Files.{Adds, AreUsed, ClosedLost, ClosedSent, Event, Here, IsClosed, Later, Lost, NoneUsed, OneUsed, StopsOpening, closing}

abbrev pub Inputs : Type 0
Inputs = List (FileName × List ℕ)

pub adds_none : {A : Type 0} (a : List A → Type 0) → Adds a a []
adds_none a = record { then = λ past was. subst a (sym (append-nil past)) was }

pub adds_both : {A : Type 0} {a b c : List A → Type 0} {xs ys : List A} → Adds a b xs → Adds b c ys → Adds a c (xs ++ ys)
adds_both {A} {a} {b} {c} {xs} {ys} p q = record { then = λ past was. subst c (append_assoc past xs ys) (q.then (past ++ xs) (p.then past was)) }

-- one that is denied, with more behind it, or behind some that weren't
pub stops_before : {xs : Inputs} (ys : Inputs) {log : List Event} {why : Refusal} → StopsOpening xs log why → StopsOpening (xs ++ ys) log why
stops_before ys (Here name path rest why denied) = Here name path (rest ++ ys) why denied
stops_before ys (Later name path rest event log why used stops) = Later name path (rest ++ ys) event log why used (stops_before ys stops)

pub stops_after : {xs ys : Inputs} {front log : List Event} {why : Refusal} → AreUsed xs front → StopsOpening ys log why → StopsOpening (xs ++ ys) (front ++ log) why
stops_after NoneUsed stops = stops
stops_after {ys = ys} {log = log} {why = why} (OneUsed name path rest event front used more) stops =
    Later name path (rest ++ ys) event (front ++ log) why used (stops_after more stops)

-- a file that is closed
pub closed : {T E : Type 0} (result : Result T E) (name : List ℕ) (held : Option (List ℕ)) → IsClosed name held (closing result name held)
closed (Ok x) name held = ClosedSent
closed (Err why) name held = ClosedLost

-- one whose writer failed isn't closed as one of which all has gone out
pub lost : {T E : Type 0} (result : Result T E) (name : List ℕ) (held : Option (List ℕ)) (m n : ℕ) → IfOk result (λ _. n ≡ 0) → n ≡ one_more m
    → closing result name held ≡ Lost name held
lost (Ok x) name held m n whole more = absurd (let some = risen_some m n more in omega (arith, some, whole))
lost (Err why) name held m n whole more = refl
