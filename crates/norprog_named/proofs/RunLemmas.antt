-- How a play on the files that were opened ends.
use Rattle.std.proofs.Common.{◌≡◌, ℕ, true, false, List, [], ◌∷◌, ◌++◌, Option, Some, None, Result, Ok, Err, IfOk, IfErr, is_ok, arith, refl, subst, sym}
use Rattle.nor_base.proofs.DeviceLaws.{risen_some}
use Rattle.nor_base.specs.Device.{Ahead, one_more}
use Rattle.nor_job.specs.declared.fault.BuildFault.TheVariants as fault
use Rattle.nor_script.specs.Stream.{HadText}
use Rattle.norprog_common.specs.declared.faults.FileName.TheVariants as file
use Rattle.norprog_common.specs.declared.faults.Refusal.{Refusal}
use Rattle.norprog_common.specs.declared.faults.Refusal.TheVariants.{Build, File}
use Rattle.norprog_common.specs.Setup.{setup_task}
use Rattle.norprog_common.specs.declared.given.OutFile.{OutFile}
use Rattle.norprog_files.specs.declared.replaced.OutKind.TheVariants.{Content}
use Rattle.norprog_files.specs.Files.{Event, Lost, Made, Sent, closing}
use Rattle.norprog_named.specs.Run.{Closes, EndsRun, IsPlayOf, NoOut, OpensPlay, OutLost, OutSent, Played, Refused}
use Rattle.norprog_run.specs.Play.{Play}
use Rattle.norprog_run.specs.Stream.{Blames, IsPlayed, Unplayed}
use Rattle.norprog_run.specs.declared.request.RunRequest.{RunRequest}
use Rattle.norprog_run.specs.declared.verdict.Verdict.{Verdict}

-- who failed, by what follows of it
pub blames_wider : {A B C D E F : Type 0} (why : Refusal) → (A → D) → (B → E) → (C → F) → Blames A B C why → Blames D E F why
blames_wider (File file.Script) f g h failed = f failed
blames_wider (Build fault.Read) f g h failed = g failed
blames_wider (Build fault.Write) f g h failed = h failed
blames_wider other f g h failed = tt

-- an output that is named
pub sent : (p : Play) (o : OutFile) (out : Option OutFile) → out ≡ Some o → Closes p out true (Made o (Content p.len) p.begun ∷ Sent o.path.now p.ended ∷ [])
sent p o out is = subst (λ (named : Option OutFile). Closes p named true (Made o (Content p.len) p.begun ∷ Sent o.path.now p.ended ∷ [])) (sym is) (OutSent o)

pub kept : (p : Play) (o : OutFile) (out : Option OutFile) → out ≡ Some o → Closes p out false (Made o (Content p.len) p.begun ∷ Lost o.path.now p.ended ∷ [])
kept p o out is = subst (λ (named : Option OutFile). Closes p named false (Made o (Content p.len) p.begun ∷ Lost o.path.now p.ended ∷ [])) (sym is) (OutLost o)

-- the play on the files that were opened
pub play_asked : (r : RunRequest) (p : Play) {tables : List ℕ} {script : Ahead} {log : List Event} → p.chip ≡ setup_task r.setup tables → p.bench ≡ r.bench
    → OpensPlay r tables p.content p.len script log → IsPlayOf r p script log
play_asked r p {tables} chip bench opens = record { tables = tables; opens = opens; chip = chip; bench = bench }

-- an output that is closed with this result
pub closes : {T E : Type 0} (p : Play) (result : Result T E) (o : OutFile) (out : Option OutFile) → out ≡ Some o
    → Closes p out (is_ok result) (Made o (Content p.len) p.begun ∷ closing result o.path.now p.ended ∷ [])
closes p (Ok x) o out is = sent p o out is
closes p (Err why) o out is = kept p o out is

-- one that failed before isn't closed as one of which all has gone out
pub unsent : {T E : Type 0} (result : Result T E) (m n : ℕ) → IfOk result (λ _. n ≡ 0) → n ≡ one_more m → is_ok result ≡ false
unsent (Ok x) m n whole more = absurd (let some = risen_some m n more in omega (arith, some, whole))
unsent (Err why) m n whole more = refl

-- a play without an output
pub ends_nowhere : (Unread : Type 0) (r : RunRequest) (p : Play) (script rest : Ahead) (read : List Event) (result : Result Verdict Refusal) → IsPlayOf r p script read
    → r.out ≡ None → IfOk result (λ verdict. HadText script rest (IsPlayed p verdict)) → IfErr result (Unplayed p script rest)
    → IfErr result (Blames Unread Unread (true ≡ false)) → EndsRun Unread r (read ++ []) result
ends_nowhere Unread r p script rest read (Ok verdict) of none played unplayed blames =
    Played p script rest read [] verdict of played (subst (λ (o : Option OutFile). Closes p o true []) (sym none) NoOut)
ends_nowhere Unread r p script rest read (Err why) of none played unplayed blames =
    Refused p script rest read [] true why of unplayed (subst (λ (o : Option OutFile). Closes p o true []) (sym none) NoOut) blames

-- the same of whichever came
pub blames_all : {T A B C D E F : Type 0} (result : Result T Refusal) → (A → D) → (B → E) → (C → F) → IfErr result (Blames A B C) → IfErr result (Blames D E F)
blames_all (Ok x) f g h failed = tt
blames_all (Err why) f g h failed = blames_wider why f g h failed
