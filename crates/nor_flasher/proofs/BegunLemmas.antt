-- Work that was broken off could have been done: its log has an end.
use Rattle.std.proofs.Common.{◌≡◌, ℕ, zero, suc, ◌%◌, ◌==◌, List, [], ◌∷◌, ◌++◌, length, map, refl, sym, ◌∙◌, ap, subst, append_assoc, arith, length-append}
use Rattle.std.specs.Prelude.{replicate}
use Rattle.std.specs.List.{AllByRecursion}
use Rattle.std.proofs.lemmas.List.{map-append}
use Rattle.std.proofs.lemmas.List.Folds.{list_all-append}
use Rattle.nor_base.specs.declared.step.Step.{Step}
use Rattle.nor_base.specs.declared.step.Step.TheVariants.{Send, Poll, Verify}
use Rattle.nor_base.specs.Chip.{Setting, Chip}
use Rattle.nor_serprog.specs.Carried.{operation_clocks}
use Rattle.nor_loop.specs.Log.{Operation, clocks, Explains}
use Rattle.nor_loop.specs.Single.{AreOperations}
use Rattle.nor_loop.specs.Steps.{status_read, IsLogOf, AreLogOf, IsBegun, IsFirstBegun, AreBegun, next_clocks}
use Rattle.nor_flasher.proofs.LengthLemmas.{IsOne}

-- the log of a step that was begun goes on
record GoesOn (log : List Operation) (Is : List Operation → Type 0) : Type 0 where
  rest : List Operation
  is : Is (log ++ rest)

-- by one operation that gives these bytes
by_one : (x : Step) (symbols got : List ℕ) (one : IsOne x) (log : List Operation) → symbols ≡ operation_clocks one.sent (length got) → log ≡ []
    → GoesOn log (λ l. (o : Operation) × (clocks o ≡ symbols) × (o.got ≡ got) × (l ≡ o ∷ []))
by_one x symbols got one log spelled none =
    let o : Operation = record { sent = one.sent; got = got } in
    record { rest = o ∷ []; is = (o, sym spelled, refl, ap (λ (l : List Operation). l ++ o ∷ []) none) }

goes_on : (x : Step) (log : List Operation) → IsOne x → IsBegun x log → GoesOn log (IsLogOf x)
goes_on (Send symbols) log one none =
    let spelled : symbols ≡ operation_clocks one.sent 0 = subst (λ n. symbols ≡ operation_clocks one.sent n) one.fits one.spelled in
    let more = by_one (Send symbols) symbols [] one log spelled none in record { rest = more.rest; is = more.is }
goes_on (Poll symbols) log one (same, waiting) =
    let longer : (waiting.busy ++ waiting.idle) ++ 0 ∷ [] ≡ waiting.busy ++ (waiting.idle ++ 0 ∷ []) = append_assoc waiting.busy waiting.idle (0 ∷ []) in
    let those : log ++ status_read 0 ∷ [] ≡ map status_read (waiting.busy ++ (waiting.idle ++ 0 ∷ [])) =
    ap (λ (l : List Operation). l ++ status_read 0 ∷ []) waiting.those ∙ sym (map-append status_read (waiting.busy ++ waiting.idle) (0 ∷ [])) ∙ ap (map status_read) longer in
    record {
      rest = status_read 0 ∷ [];
      is = (
        same,
        record {
          busy = waiting.busy;
          idle = waiting.idle ++ 0 ∷ [];
          some = omega (arith, length-append waiting.idle (0 ∷ []));
          each = waiting.each;
          last = list_all-append (λ status. status % 2 == 0) waiting.idle (0 ∷ []) ∙ (rw waiting.then_idle refl);
          those = those;
        },
      );
    }
goes_on (Verify symbols expect) log one none =
    let spelled : symbols ≡ operation_clocks one.sent (length expect) = subst (λ n. symbols ≡ operation_clocks one.sent n) one.fits one.spelled in
    let more = by_one (Verify symbols expect) symbols expect one log spelled none in record { rest = more.rest; is = more.is }

-- nothing of a step was done yet
pub not_yet : (x : Step) → IsOne x → IsBegun x []
not_yet (Send symbols) one = refl
not_yet (Poll symbols) one = (one.fits, record { busy = []; idle = []; each = refl; then_idle = refl; those = refl })
not_yet (Verify symbols expect) one = refl

-- steps have a log
have_log : (steps : List Step) → AllByRecursion IsOne steps → (log : List Operation) × AreLogOf steps log
have_log [] all = ([], refl)
have_log (x ∷ xs) all =
    let first = goes_on x [] all.0 (not_yet x all.0) in
    let more = have_log xs all.1 in (first.rest ++ more.0, (first.rest, more.0, refl, first.is, more.1))

-- of steps in two parts
pub all_before : (xs ys : List Step) → AllByRecursion IsOne (xs ++ ys) → AllByRecursion IsOne xs
all_before [] ys all = tt
all_before (x ∷ xs) ys all = (all.0, all_before xs ys all.1)

pub all_after : (xs ys : List Step) → AllByRecursion IsOne (xs ++ ys) → AllByRecursion IsOne ys
all_after [] ys all = all
all_after (x ∷ xs) ys all = all_after xs ys all.1

log_both : (xs ys : List Step) (first second : List Operation) → AreLogOf xs first → AreLogOf ys second → AreLogOf (xs ++ ys) (first ++ second)
log_both [] ys first second none more = subst (AreLogOf ys) (sym (ap (λ (l : List Operation). l ++ second) none)) more
log_both (x ∷ xs) ys first second (one, rest, joined, its, those) more =
    (one, rest ++ second, ap (λ (l : List Operation). l ++ second) joined ∙ append_assoc one rest second, its, log_both xs ys rest second those more)

-- a row whose first step was begun has a log that goes on
row_ends : (row rest : List Step) (begun : List Operation) → AllByRecursion IsOne (row ++ rest) → IsFirstBegun row begun
    → (more : List Operation) × AreLogOf (row ++ rest) (begun ++ more)
row_ends [] rest begun all first = absurd first
row_ends (x ∷ xs) rest begun all first =
    let one = goes_on x begun all.0 first in
    let more = have_log (xs ++ rest) all.1 in
    (one.rest ++ more.0, (begun ++ one.rest, more.0, sym (append_assoc begun one.rest more.0), one.is, more.1))

-- and so have the steps
pub ends : (steps : List Step) (at : ℕ) (row : List Step) (log : List Operation) → AllByRecursion IsOne steps → AreBegun steps at row log
    → (rest : List Operation) × AreLogOf steps (log ++ rest)
ends steps at row log all begun =
    let tail = row ++ begun.rest in
    let whole = subst (AllByRecursion IsOne) begun.those all in
    let more = row_ends row begun.rest begun.begun (all_after begun.front tail whole) begun.last in
    let joined : begun.done ++ (begun.begun ++ more.0) ≡ log ++ more.0 =
    sym (append_assoc begun.done begun.begun more.0) ∙ ap (λ (l : List Operation). l ++ more.0) (sym begun.joined) in (
      more.0,
      subst (λ (l : List Step). AreLogOf l (log ++ more.0)) (sym begun.those)
          (subst (AreLogOf (begun.front ++ tail)) joined (log_both begun.front tail begun.done (begun.begun ++ more.0) begun.logged more.1)),
    )

-- the clocks of steps are operations
often : (n : ℕ) (symbols sent : List ℕ) (asked : ℕ) (more : List (List ℕ)) → symbols ≡ operation_clocks sent asked → AreOperations more
    → AreOperations (replicate n symbols ++ more)
often zero symbols sent asked more is rest = rest
often (suc n) symbols sent asked more is rest = ((sent, asked, is), often n symbols sent asked more is rest)

pub next_operations : (reads : ℕ) (row : List Step) → AllByRecursion IsOne row → AreOperations (next_clocks reads row)
next_operations reads [] all = tt
next_operations reads (Send symbols ∷ xs) all = ((all.0.sent, all.0.asked, all.0.spelled), next_operations reads xs all.1)
next_operations reads (Poll symbols ∷ xs) all =
    often reads symbols all.0.sent all.0.asked (next_clocks reads xs) all.0.spelled (next_operations reads xs all.1)
next_operations reads (Verify symbols expect ∷ xs) all = ((all.0.sent, all.0.asked, all.0.spelled), next_operations reads xs all.1)

-- who explains a log explains its front
pub explains_front : (s : Setting) (c d : Chip) (xs ys : List Operation) → Explains s c (xs ++ ys) d → (e : Chip) × Explains s c xs e
explains_front s c d [] ys h = (c, refl)
explains_front s c d (o ∷ xs) ys (e, does, more) = let rest = explains_front s e d xs ys more in (rest.0, (e, does, rest.1))
