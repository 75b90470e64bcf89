-- What is judged of all chips of a kind is the outcome of one of them, and no other's is earlier.
use Rattle.std.proofs.Common.{◌≡◌, ℕ, suc, Bool, true, false, not, ◌&&◌, if◌then◌else◌, List, [], ◌∷◌, length, Option, Some, None, Result, Ok, Err, refl, sym, ◌∙◌, ap, arith, subst, inl, inr, add-one}
use Rattle.nor_base.specs.declared.step.Step.{Step}
use Rattle.nor_base.specs.declared.wrong.Wrong.{Wrong}
use Rattle.nor_base.specs.declared.wrong.Wrong.TheVariants as wrong
use Rattle.nor_base.specs.Chip.{Setting, Chip, is_busy, is_settled, is_mode, first_mode4}
use Rattle.nor_base.specs.Run.{Stop, one_later, go_on, run, step}
use Rattle.nor_laws.specs.Laws.{PollEnds}
use Rattle.nor_laws.specs.Spelling.{VerifyKeeps}
use Rattle.nor_check.specs.declared.chips.Latches.{Latches}
use Rattle.nor_check.specs.declared.chips.Latches.TheVariants.{Clear, Set, Either}
use Rattle.nor_check.specs.declared.verdict.Verdict.{Verdict}
use Rattle.nor_check.specs.declared.verdict.Verdict.TheVariants.{Yes, No}
use Rattle.nor_check.specs.declared.verdict.Why.TheVariants as why
use Rattle.nor_check.specs.Order.{rank_of}
use Rattle.nor_check.specs.Outcome.{first_difference, at_difference, ended, outcome_from}
use Rattle.nor_check.specs.Chips.{Kind, Chips, one_like, latch_of, MayBeLeft, one_of, some_left, least_able}
use Rattle.nor_check.specs.Judged.{later, all_step, judge_on, judged}
use Rattle.nor_check.proofs.Before.{IsNoLater, later_too}
use Rattle.nor_check.proofs.Lines.{NotBelow}
use Rattle.nor_check.proofs.Members.{left_for_some}
use Rattle.nor_check.proofs.Steps.{IsStepOfAll, step_of_all}

-- one step more
pub end_later : (n : ℕ) (b : Bool) (o : Option ℕ)
    → (if b then at_difference (suc n) o else No (suc n) (why.Wrong wrong.NotIdleAtEnd)) ≡ later (if b then at_difference n o else No n (why.Wrong wrong.NotIdleAtEnd))
end_later n true None = refl
end_later n true (Some a) = ap (λ m. No m (why.Differs a)) (sym (add-one n))
end_later n false o = ap (λ m. No m (why.Wrong wrong.NotIdleAtEnd)) (sym (add-one n))

pub ended_later : (s : Setting) (target : List ℕ) (n : ℕ) (r : Result Chip Stop) → ended s target (suc n) (one_later r) ≡ later (ended s target n r)
ended_later s target n (Ok c) = end_later n (is_settled s c) (first_difference c.array target)
ended_later s target n (Err stop) = refl

pub outcome_next : (s : Setting) (c d : Chip) (target : List ℕ) (x : Step) (xs : List Step) → step s c x ≡ Ok d
    → outcome_from s c target (x ∷ xs) ≡ later (outcome_from s d target xs)
unfolding outcome_from run
outcome_next s c d target x xs h =
    ap (λ r. ended s target (suc (length xs)) (go_on c r (λ d. run s d xs))) h ∙ ended_later s target (length xs) (run s d xs)

pub outcome_stops : (s : Setting) (c : Chip) (target : List ℕ) (x : Step) (xs : List Step) (cause : Wrong) → step s c x ≡ Err cause
    → outcome_from s c target (x ∷ xs) ≡ No 0 (why.Wrong cause)
unfolding outcome_from run
outcome_stops s c target x xs cause h = ap (λ r. ended s target (suc (length xs)) (go_on c r (λ d. run s d xs))) h

pub record IsJudged (k : Kind) (target : List ℕ) (w : Chips) (steps : List Step) (v : Verdict) : Type 0 where
  pub keeps : Bool
  pub left : ℕ
  pub to_come : List ℕ
  pub may : MayBeLeft w.busy left
  pub so : (busy : List ℕ) → outcome_from (one_like k busy keeps) (one_of w keeps left to_come) target steps ≡ v
  pub first : (busy : List ℕ) (keeps : Bool) (left : ℕ) (to_come : List ℕ) → MayBeLeft w.busy left
      → IsNoLater v (outcome_from (one_like k busy keeps) (one_of w keeps left to_come) target steps)

-- at the end: where the last one is settled each is
settles : (busy : Bool) (latches : Latches) (keeps : Bool) (left : ℕ) (m : Bool) → MayBeLeft busy left
    → not (is_busy (some_left busy)) && (not (latch_of latches true) && m) ≡ true → not (is_busy left) && (not (latch_of latches keeps) && m) ≡ true
settles true latches keeps left m may h = cc
settles false Set keeps left m may h = cc
settles false Either keeps left m may h = cc
settles false Clear keeps left m may h = ap (λ n. not (is_busy n) && m) may ∙ h

end_first : (b c : Bool) (o : Option ℕ) → (b ≡ true → c ≡ true)
    → IsNoLater (if b then at_difference 0 o else No 0 (why.Wrong wrong.NotIdleAtEnd)) (if c then at_difference 0 o else No 0 (why.Wrong wrong.NotIdleAtEnd))
end_first true true None only = tt
end_first true true (Some a) only = inr (refl, omega arith)
end_first true false o only = let no : false ≡ true = only refl in cc
end_first false true None only = tt
end_first false true (Some a) only = inr (refl, omega arith)
end_first false false o only = inr (refl, omega arith)

judges_end : (k : Kind) (target : List ℕ) (w : Chips) → IsJudged k target w [] (judged k target w [])
unfolding outcome_from run judged is_settled
judges_end k target w = record {
  keeps = true;
  left = some_left w.busy;
  to_come = [];
  may = left_for_some w.busy;
  so = λ busy. refl;
  first = λ busy keeps left to_come may.
      end_first (not (is_busy (some_left w.busy)) && (not (latch_of w.latches true) && is_mode (first_mode4 (one_like k [] true)) w.mode4))
      (not (is_busy left) && (not (latch_of w.latches keeps) && is_mode (first_mode4 (one_like k [] true)) w.mode4)) (first_difference w.array target)
      (settles w.busy w.latches keeps left (is_mode (first_mode4 (one_like k [] true)) w.mode4) may);
}

-- a step that goes wrong
pub zero_first : (cause : Wrong) (v : Verdict) → IsNoLater (No 0 (why.Wrong cause)) (later v)
zero_first cause Yes = tt
zero_first cause (No n b) = inl (omega arith)

stops_first : (s : Setting) (c : Chip) (target : List ℕ) (x : Step) (xs : List Step) (cause : Wrong) (r : Result Chip Wrong) → step s c x ≡ r → NotBelow (rank_of cause) r
    → IsNoLater (No 0 (why.Wrong cause)) (outcome_from s c target (x ∷ xs))
stops_first s c target x xs cause (Ok d) is low =
    subst (IsNoLater (No 0 (why.Wrong cause))) (sym (outcome_next s c d target x xs is)) (zero_first cause (outcome_from s d target xs))
stops_first s c target x xs cause (Err other) is low =
    subst (IsNoLater (No 0 (why.Wrong cause))) (sym (outcome_stops s c target x xs other is)) (inr (refl, low))

judges_step : (k : Kind) (target : List ℕ) (w : Chips) (x : Step) (xs : List Step) (r : Result Chips Wrong) → IsStepOfAll k x w r
    → ((after : Chips) → IsJudged k target after xs (judged k target after xs))
    → IsJudged k target w (x ∷ xs) (judge_on r (λ after. judged k target after xs))
judges_step k target w x xs (Ok v) is rest =
    let more = rest v in
    let from = is.back more.keeps more.left more.to_come more.may in
    record {
      keeps = more.keeps;
      left = from.was_left;
      to_come = from.was_come;
      may = from.may;
      so = λ busy.
          outcome_next (one_like k busy more.keeps) (one_of w more.keeps from.was_left from.was_come) (one_of v more.keeps more.left more.to_come) target x xs (from.steps busy)
          ∙ ap later (more.so busy);
      first = λ busy keeps left to_come may.
          let next = is.onward keeps left to_come may in
          subst (IsNoLater (later (judged k target v xs)))
          (sym (outcome_next (one_like k busy keeps) (one_of w keeps left to_come) (one_of v keeps next.then_left next.then_come) target x xs (next.steps busy)))
          (later_too (judged k target v xs) _ (more.first busy keeps next.then_left next.then_come next.may));
    }
judges_step k target w x xs (Err cause) is rest = record {
  keeps = false;
  left = some_left w.busy;
  to_come = [];
  may = left_for_some w.busy;
  so = λ busy. outcome_stops (one_like k busy false) (least_able w) target x xs cause (is.some busy (some_left w.busy) [] refl);
  first = λ busy keeps left to_come may.
      stops_first (one_like k busy keeps) (one_of w keeps left to_come) target x xs cause _ refl (is.first busy keeps left to_come may);
}

pub judges : (k : Kind) (target : List ℕ) (w : Chips) (steps : List Step) → PollEnds → VerifyKeeps → IsJudged k target w steps (judged k target w steps)
unfolding judged
judges k target w [] ends keeps = judges_end k target w
judges k target w (x ∷ xs) ends keeps = judges_step k target w x xs (all_step k w x) (step_of_all k w x ends keeps) (λ after. judges k target after xs ends keeps)
