-- Steps row by row.
use Rattle.std.proofs.Common.{◌≡◌, ℕ, ◌+◌, ◌<◌, false, List, [], ◌∷◌, ◌++◌, take, drop, length, sym, ◌∙◌, ap, subst, arith, length-append}
use Rattle.std.specs.Prelude.{All}
use Rattle.std.proofs.lemmas.List.{take-append-drop, take-append-le, get_or_append_left, get_or-append-add, append-nil}
use Rattle.std.proofs.lemmas.List.Elements.{All-append}
use Rattle.std.proofs.Math.Seq.{take-append-add}
use Rattle.nor_base.specs.Array.{is_filled}
use Rattle.nor_base.specs.declared.step.Step.{Step}
use Rattle.nor_serprog.specs.declared.limits.Limits.{Limits}
use Rattle.nor_serprog.specs.Steps.{IsCarried, AreCarried, IsFirstNotCarried}

-- of two parts
pub all_first : (P : Step → Type 0) (xs ys : List Step) → All P (xs ++ ys) → All P xs
all_first P xs ys all = λ k d within. subst P (get_or_append_left xs ys d k within) (all k d (omega (arith, within, length-append xs ys)))

pub all_second : (P : Step → Type 0) (xs ys : List Step) → All P (xs ++ ys) → All P ys
all_second P xs ys all = λ k d within. subst P (get_or-append-add xs ys k d) (all (length xs + k) d (omega (arith, within, length-append xs ys)))

-- the rest in two parts
pub in_two : (rest row later : List Step) (n : ℕ) → row ≡ take n rest → later ≡ drop n rest → rest ≡ row ++ later
in_two rest row later n front back =
    sym (take-append-drop n rest) ∙ ap (λ (l : List Step). l ++ drop n rest) (sym front) ∙ ap (λ (l : List Step). row ++ l) (sym back)

-- the first step that can't be done, among more
pub first_among : (limits : Limits) (front window later : List Step) (at : ℕ) → AreCarried limits front → IsFirstNotCarried limits window at
    → IsFirstNotCarried limits (front ++ (window ++ later)) (length front + at)
first_among limits front window later at before first =
    let within : at < length (window ++ later) = omega (arith, first.within, length-append window later) in
    let those : take (length front + at) (front ++ (window ++ later)) ≡ front ++ take at window =
    take-append-add front (window ++ later) at ∙ ap (λ (l : List Step). front ++ l) (take-append-le at window later (omega (arith, first.within))) in
    record {
      within = omega (arith, within, length-append front (window ++ later));
      before = subst (AreCarried limits) (sym those) (All-append (IsCarried limits) front (take at window) before first.before);
      first = first.first;
      is = first.is ∙ sym (get_or_append_left window later first.first at first.within) ∙ sym (get_or-append-add front (window ++ later) at first.first);
      none = first.none;
    }

-- no steps are left
pub none_left : (P : Step → Type 0) (all front rest : List Step) → all ≡ front ++ rest → is_filled rest ≡ false → All P front → All P all
none_left P all front [] is none those = subst (All P) (sym (is ∙ append-nil front)) those
none_left P all front (x ∷ xs) is none those = cc
