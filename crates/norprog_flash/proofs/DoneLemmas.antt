-- Steps that are made window after window.
use Rattle.std.proofs.Common.{◌≡◌, ℕ, ◌+◌, ◌<◌, ◌≤◌, nat_lt, false, List, [], ◌++◌, length, take, sym, ◌∙◌, ap, subst, arith, inl, inr, append_assoc, append-nil, length-append}
use Rattle.std.proofs.Math.Seq.{take-append-add}
use Rattle.std.proofs.lemmas.Bool.{cases_lt, lt-ltb}
use Rattle.std.proofs.lemmas.List.Elements.{All-append}
use Rattle.std.proofs.lemmas.List.{get_or_append_left, get_or-append-add, nil_from_length, take-append-le}
use Rattle.nor_base.specs.declared.step.Step.{Step}
use Rattle.nor_serprog.specs.Steps.{AreCarried, IsCarried, IsFirstNotCarried}
use Rattle.nor_serprog.specs.declared.limits.Limits.{Limits}
use Rattle.norprog.specs.Stepper.{Stepping, IsAtWindow, MakesMore, made, steps_by, steps_upto, update_of}
use Rattle.norprog.specs.Update.{Update}
use Rattle.norprog_flash.specs.Survey.{AreSurveyed}

-- the steps of a work whose windows were made so far, and those that are ahead
pub all_parts : (u : Update) (s : Stepping) → (is : IsAtWindow s) → update_of s ≡ u → steps_by u ≡ made s ++ (is.ahead ++ is.leave)
all_parts u s is same =
    subst (λ (v : Update). steps_by v ≡ made s ++ (is.ahead ++ is.leave)) same
    (is.whole ∙ ap (λ (l : List Step). l ++ is.leave) is.begins ∙ append_assoc (made s) is.ahead is.leave)

-- and those of a window
pub next_parts : (u : Update) (s t : Stepping) (steps : List Step) → (more : MakesMore s t steps) → update_of s ≡ u
    → steps_by u ≡ made s ++ (steps ++ (more.ready.ahead ++ more.ready.leave))
next_parts u s t steps more same =
    let rest = more.ready.ahead ++ more.ready.leave in
    all_parts u t more.ready (more.same ∙ same) ∙ ap (λ (l : List Step). l ++ rest) more.those ∙ append_assoc (made s) steps rest

-- they are no more than all
pub next_few : (u : Update) (s t : Stepping) (steps : List Step) → MakesMore s t steps → update_of s ≡ u → length (made s) + length steps ≤ length (steps_by u)
next_few u s t steps more same =
    let rest = more.ready.ahead ++ more.ready.leave in
    let long = ap length (next_parts u s t steps more same) in omega (arith, long, length-append (made s) (steps ++ rest), length-append steps rest)

-- how many are ahead
pub long_ahead : (u : Update) (s : Stepping) → (is : IsAtWindow s) → update_of s ≡ u → length (steps_upto u (length u.have)) ≡ length (made s) + length is.ahead
long_ahead u s is same =
    subst (λ (v : Update). length (steps_upto v (length v.have)) ≡ length (made s) + length is.ahead) same (ap length is.begins ∙ length-append (made s) is.ahead)

-- while some are, there is a window more
pub has_next : (u : Update) (s : Stepping) → IsAtWindow s → update_of s ≡ u → length (made s) < length (steps_upto u (length u.have)) → s.at < length s.have
has_next u s is same less = elim (cases_lt s.at (length s.have)) [
  | inl before ↦ before
  | inr past ↦
      let end : s.at ≡ length s.have = omega (arith, past, is.within) in
      let all : length (steps_upto u (length u.have)) ≡ length (made s) =
      subst (λ (v : Update). length (steps_upto v (length v.have)) ≡ length (made s)) same (ap (λ n. length (steps_upto (update_of s) n)) (sym end)) in
      absurd (omega (arith, less, all))
]

-- where none is, those that come after the last window are the rest
pub none_ahead : (u : Update) (s : Stepping) (last rest : List Step) → IsAtWindow s → update_of s ≡ u → length (steps_upto u (length u.have)) ≤ length (made s)
    → steps_by u ≡ steps_upto u (length u.have) ++ rest → last ≡ rest → steps_by u ≡ made s ++ last
none_ahead u s last rest is same all whole its =
    let long = long_ahead u s is same in
    let none : is.ahead ≡ [] = nil_from_length is.ahead (omega (arith, long, all)) in
    let those : steps_upto u (length u.have) ≡ made s =
    subst (λ (v : Update). steps_upto v (length v.have) ≡ made s) same (is.begins ∙ ap (λ (l : List Step). made s ++ l) none ∙ append-nil (made s)) in
    whole ∙ ap (λ (l : List Step). l ++ rest) those ∙ ap (λ (l : List Step). made s ++ l) (sym its)

-- after the last window
pub at_end : (s : Stepping) → IsAtWindow s → nat_lt s.at (length s.have) ≡ false → s.at ≡ length s.have
at_end s is none = elim (cases_lt s.at (length s.have)) [
  | inl before ↦ let yes = lt-ltb s.at (length s.have) before in absurd cc
  | inr past ↦ omega (arith, past, is.within)
]

-- all steps were looked at
pub surveyed : (limits : Limits) (u : Update) (s : Stepping) (last : List Step) → update_of s ≡ u → s.at ≡ length s.have → steps_by (update_of s) ≡ made s ++ last
    → AreCarried limits (made s) → AreCarried limits last → AreSurveyed limits u last
surveyed limits u s last same end whole first second =
    subst (λ (v : Update). AreSurveyed limits v last) same (record {
      carried = subst (AreCarried limits) (sym whole) (All-append (IsCarried limits) (made s) last first second);
      whole = whole ∙ ap (λ n. steps_upto (update_of s) n ++ last) end;
    })

pub carried_more : (limits : Limits) (s t : Stepping) (steps : List Step) → MakesMore s t steps → AreCarried limits (made s) → AreCarried limits steps → AreCarried limits (made t)
carried_more limits s t steps more first second = subst (AreCarried limits) (sym more.those) (All-append (IsCarried limits) (made s) steps first second)

-- the first step that a device can't do, after others that it can
pub first_shifts : (limits : Limits) (all front steps rest : List Step) (done at : ℕ) → all ≡ front ++ (steps ++ rest) → done ≡ length front → AreCarried limits front
    → IsFirstNotCarried limits steps at → IsFirstNotCarried limits all (done + at)
first_shifts limits all front steps rest done at those count can its =
    let ys = steps ++ rest in
    let long = length-append steps rest in
    let place : length front + at ≡ done + at = ap (λ n. n + at) (sym count) in
    let taken : take (length front + at) (front ++ ys) ≡ front ++ take at steps =
    take-append-add front ys at ∙ ap (λ (l : List Step). front ++ l) (take-append-le at steps rest (omega (arith, its.within))) in
    subst (λ n. IsFirstNotCarried limits all n) place (subst (λ (l : List Step). IsFirstNotCarried limits l (length front + at)) (sym those) (record {
      within = omega (arith, its.within, long, length-append front ys);
      before = subst (AreCarried limits) (sym taken) (All-append (IsCarried limits) front (take at steps) can its.before);
      first = its.first;
      is = its.is ∙ sym (get_or_append_left steps rest its.first at its.within) ∙ sym (get_or-append-add front ys at its.first);
      none = its.none;
    }))
