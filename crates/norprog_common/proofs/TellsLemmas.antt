-- A text was told.
use Rattle.std.proofs.Common.{◌≡◌, ◌∙◌, ℕ, inl, inr, List, ◌++◌, Option, Result, Ok, Err, IfOk, IfErr, ap}
use Rattle.nor_base.specs.declared.device.Failed.{Failed}
use Rattle.nor_base.specs.Device.{Writes, Counts, one_more}
use Rattle.nor_base.proofs.DeviceLaws.{Appends-append}
use Rattle.norprog_common.specs.declared.faults.Refusal.{Refusal}
use Rattle.norprog_common.specs.Lines.{printed, status_after}
use Rattle.norprog_common.specs.Told.{Ends, Tells, output}

module _ {W : Type 0} (held : W → Option (List ℕ)) (count : W → ℕ) where
  -- by one write, whose failure was counted
  pub wrote : {T : Type 0} (x y : W) (r : Result T Failed) (text : List ℕ) → Writes (held x) (held y) r text → Counts (count x) (count y) r
      → Tells (output held count x y) text
  wrote x y (Ok u) text put same = inl put
  wrote x y (Err e) text cut rose = inr rose

  -- by one write, and then more was told; where it failed nothing more was written
  pub told_then : {T : Type 0} (x y z : W) (r : Result T Failed) (text more : List ℕ) → Writes (held x) (held y) r text → Counts (count x) (count y) r
      → IfOk r (λ _. Tells (output held count y z) more) → IfErr r (λ _. z ≡ y) → Tells (output held count x z) (text ++ more)
  told_then x y z (Ok u) text more put same (inl next) none = inl (Appends-append (held x) (held y) (held z) text more put next)
  told_then x y z (Ok u) text more put same (inr failed) none = inr (failed ∙ ap one_more same)
  told_then x y z (Err e) text more cut rose next none = inr (ap count none ∙ rose)

  -- how an answer ends
  pub answer_ends : (x y : W) (status : ℕ) (answer : Result ℕ Refusal) → IfOk answer (λ own. (status ≡ own) × (y ≡ x))
      → IfErr answer (λ why. (status ≡ status_after why) × Tells (output held count x y) (printed why)) → Ends (output held count x y) status answer
  answer_ends x y status (Ok own) done told = (done.0, (ap held done.1, ap count done.1))
  answer_ends x y status (Err why) done told = told
