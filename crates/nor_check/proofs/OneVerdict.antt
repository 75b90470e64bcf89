-- Two worst verdicts are one.
use Rattle.std.proofs.Common.{◌≡◌, ℕ, ◌+◌, ◌<◌, ◌==◌, if◌then◌else◌, Bool, true, false, List, length, get_or, drop, refl, sym, ◌∙◌, ap, arith, inl, inr, subst}
use Rattle.nor_base.specs.declared.wrong.Wrong.{Wrong}
use Rattle.nor_base.specs.declared.wrong.Wrong.TheVariants as wrong
use Rattle.nor_check.specs.declared.verdict.Verdict.{Verdict}
use Rattle.nor_check.specs.declared.verdict.Verdict.TheVariants.{Yes, No}
use Rattle.nor_check.specs.declared.verdict.Why.{Why}
use Rattle.nor_check.specs.declared.verdict.Why.TheVariants as why
use Rattle.nor_check.specs.Order.{rank, rank_of, is_before, earlier}
use Rattle.nor_check.specs.Chips.{Together}
use Rattle.nor_check.specs.Outcome.{Trial}
use Rattle.nor_check.specs.Pages.{worst_of}
use Rattle.std.proofs.lemmas.List.{at_drop_more}
use Rattle.nor_check.specs.Worst.{IsWorst}
use Rattle.nor_check.proofs.Before.{IsNoLater, untold, earlier_of, no_later_trans}

-- the wrong of a rank below 8
wrong_at : ℕ → Wrong
wrong_at n =
    if n == 0 then wrong.Unknown
    else if n == 1 then wrong.Ignored
    else if n == 2 then wrong.OutOfRange
    else if n == 3 then wrong.Raised
    else if n == 4 then wrong.NotErased
    else if n == 5 then wrong.Mismatch
    else if n == 6 then wrong.PollNever
    else wrong.NotIdleAtEnd

wrong_again : (w : Wrong) → wrong_at (rank_of w) ≡ w
unfolding wrong_at
wrong_again wrong.Unknown = refl
wrong_again wrong.Ignored = refl
wrong_again wrong.OutOfRange = refl
wrong_again wrong.Raised = refl
wrong_again wrong.NotErased = refl
wrong_again wrong.Mismatch = refl
wrong_again wrong.PollNever = refl
wrong_again wrong.NotIdleAtEnd = refl

below_eight : (w : Wrong) → rank_of w < 8
below_eight wrong.Unknown = omega arith
below_eight wrong.Ignored = omega arith
below_eight wrong.OutOfRange = omega arith
below_eight wrong.Raised = omega arith
below_eight wrong.NotErased = omega arith
below_eight wrong.Mismatch = omega arith
below_eight wrong.PollNever = omega arith
below_eight wrong.NotIdleAtEnd = omega arith

-- two causes of one rank are one
same_cause : (a b : Why) → rank a ≡ rank b → a ≡ b
same_cause (why.Wrong v) (why.Wrong w) h = ap why.Wrong (sym (wrong_again v) ∙ ap wrong_at h ∙ wrong_again w)
same_cause (why.Wrong v) (why.Differs b) h = let low = below_eight v in absurd (omega (arith, h))
same_cause (why.Differs a) (why.Wrong w) h = let low = below_eight w in absurd (omega (arith, h))
same_cause (why.Differs a) (why.Differs b) h = let same : a ≡ b = omega (arith, h) in ap why.Differs same

pub same_verdict : (v u : Verdict) → IsNoLater v u → IsNoLater u v → v ≡ u
same_verdict Yes Yes h g = refl
same_verdict Yes (No n b) h g = absurd h
same_verdict (No k a) Yes h g = absurd g
same_verdict (No k a) (No n b) (inl less) (inl more) = absurd (omega arith)
same_verdict (No k a) (No n b) (inl less) (inr same) = let number = same.0 in absurd (omega arith)
same_verdict (No k a) (No n b) (inr same) (inl more) = let number = same.0 in absurd (omega arith)
same_verdict (No k a) (No n b) (inr same) (inr too) =
    let low = same.1 in
    let high = too.1 in
    let ranks : rank a ≡ rank b = omega arith in
    ap (λ m. No m a) same.0 ∙ ap (No n) (same_cause a b ranks)

-- what is worst is no later than any outcome, and so than what is worst
no_later : (t : Trial) (v u : Verdict) → IsWorst t v → IsWorst t u → IsNoLater v u
no_later t v u first second =
    untold v u (subst (λ (t : Verdict). is_before t v ≡ false) second.so (first.first second.chip second.is))

pub one_worst : (t : Trial) (v u : Verdict) → IsWorst t v → IsWorst t u → v ≡ u
one_worst t v u first second = same_verdict v u (no_later t v u first second) (no_later t u v second first)

-- the order of three
below_both : (a v u : Verdict) → IsNoLater a v → IsNoLater a u → IsNoLater a (earlier v u)
below_both a v u p q = by (is_before u v)
  where
    by : (b : Bool) → IsNoLater a (if b then u else v)
    by true = q
    by false = p

pub earlier_assoc : (v u t : Verdict) → earlier (earlier v u) t ≡ earlier v (earlier u t)
earlier_assoc v u t =
    let left = earlier_of (earlier v u) t in
    let front = earlier_of v u in
    let right = earlier_of v (earlier u t) in
    let back = earlier_of u t in
    let a = earlier (earlier v u) t in
    let b = earlier v (earlier u t) in
    same_verdict a b
    (below_both a v (earlier u t) (no_later_trans a (earlier v u) v left.0 front.0) (below_both a u t (no_later_trans a (earlier v u) u left.0 front.1) left.1))
    (below_both b (earlier v u) t (below_both b v u right.0 (no_later_trans b (earlier u t) u right.1 back.0)) (no_later_trans b (earlier u t) t right.1 back.1))

-- the earliest of all
pub earliest_more : (f : Together → Verdict) (v whole : Verdict) (ts : List Together) (i : ℕ) (d : Together) (next : Verdict) → i < length ts
    → whole ≡ earlier v (worst_of f (drop i ts)) → next ≡ earlier v (f (get_or ts i d)) → whole ≡ earlier next (worst_of f (drop (i + 1) ts))
earliest_more f v whole ts i d next within h is =
    h ∙ at_drop_more (λ l. earlier v (worst_of f l)) ts i d within ∙ sym (earlier_assoc v (f (get_or ts i d)) (worst_of f (drop (i + 1) ts)))
    ∙ ap (λ u. earlier u (worst_of f (drop (i + 1) ts))) (sym is)
