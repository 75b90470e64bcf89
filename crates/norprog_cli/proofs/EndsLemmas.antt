-- What has gone out of what was gathered, and what is told of it.
use Rattle.std.proofs.Common.{◌≡◌, ◌∙◌, ◌≤◌, ℕ, List, [], Option, Some, None, Result, Err, ap, append-nil, refl, subst, sym}
use Rattle.std.specs.Io.KnownBytes.{append_known, Keeps}
use Rattle.nor_job.specs.declared.fault.BuildFault.TheVariants.{Write}
use Rattle.norprog_cli.specs.Ends.{AsAnswered, AsBefore, EndsOnSystem, EndsProgram, IsAdded, IsLeft, NotAdded, Unaccounted}
use Rattle.norprog_cli.specs.Answers.{AnswersWords, screen}
use Rattle.norprog_common.specs.Told.{Ends, Output, Tells, between, output}
use Rattle.norprog_common.specs.declared.faults.Refusal.{Refusal}
use Rattle.norprog_common.specs.declared.faults.Refusal.TheVariants.{Build}
use Rattle.norprog_files.specs.Files.{Event}
use Rattle.norprog_files.specs.Trace.{Reports}

-- with nothing more, known bytes are the same
pub nothing_more : (known : Option (List ℕ)) → append_known known [] ≡ known
nothing_more None = refl
nothing_more (Some bytes) = ap (λ (all : List ℕ). Some all) (append-nil bytes)

-- nothing was gathered
pub keeps_all : (known : Option (List ℕ)) → Keeps known (append_known known [])
keeps_all None = tt
keeps_all (Some bytes) = append-nil bytes

-- nothing had been gathered before, and this is left
pub is_left : (held printed after : Option (List ℕ)) (gathered left : List ℕ) (m n k : ℕ) → gathered ≡ [] → Keeps printed (append_known after left)
    → IsLeft (between (append_known held gathered) printed m n) (between held after m k) left
is_left held printed after gathered left m n k none kept = record {
  before = ap (λ (rest : List ℕ). append_known held rest) none ∙ nothing_more held;
  after = kept;
  failures = refl;
}

-- nothing is left of it
pub all_gone : {printed out : Output} {left : List ℕ} → left ≡ [] → IsLeft printed out left → IsLeft printed out []
all_gone {printed = printed} {out = out} gone is = subst (λ (rest : List ℕ). IsLeft printed out rest) gone is

module _ {E : Type 0} (held : E → Option (List ℕ)) (count : E → ℕ) {old new : E} where
  -- a command that is done has told nothing
  pub at_zero : {Unread : Type 0} {words : List (List ℕ)} {printed : Output} {status : ℕ} {log : List Event} → (status ≡ 0 → new ≡ old) → status ≡ 0
      → AnswersWords Unread words (screen printed (output held count old new)) status log → AnswersWords Unread words (screen printed (output held count old old)) 0 log
  at_zero {Unread} {words} {printed} {status} {log} quiet zero answers =
      subst (λ (n : ℕ). AnswersWords Unread words (screen printed (output held count old old)) n log) zero
      (subst (λ (e : E). AnswersWords Unread words (screen printed (output held count old e)) status log) (quiet zero) answers)

  -- so what is told then is all
  pub told_from : (last : E) (text : List ℕ) → new ≡ old → Tells (output held count new last) text → Tells (output held count old last) text
  told_from last text same told = subst (λ (e : E). Tells (output held count e last) text) same told

-- an object behind what a command printed, or what is told of one that couldn't be written
pub accounted : {E F : Type 0} {files : Reports F} {words : Result (List (List ℕ)) Refusal} {out : Output} {status last : ℕ} {old mid new : E}
    (held : E → Option (List ℕ)) (count : E → ℕ) → (status ≡ 0 → mid ≡ old) → EndsOnSystem files words (screen out (output held count old mid)) status
    → IsAdded status (output held count mid new) (new ≡ mid) last → EndsProgram files words (output held count old new) last
accounted {E} {F} {files} {words} {out} {status} {last} {old} {mid} {new} held count quiet ends (AsBefore same) =
    AsAnswered out (subst (λ (e : E). EndsOnSystem files words (screen out (output held count old e)) status) (sym same) ends)
accounted {E} {F} {files} {words} {out} {status} {last} {old} {mid} {new} held count quiet ends (NotAdded end zero told) =
    Unaccounted out
    (subst (λ (n : ℕ). EndsOnSystem files words (screen out (output held count old old)) n) zero
    (subst (λ (e : E). EndsOnSystem files words (screen out (output held count old e)) status) (quiet zero) ends))
    (subst (λ (e : E). Ends (output held count e new) last (Err (Build Write))) (quiet zero) told)
